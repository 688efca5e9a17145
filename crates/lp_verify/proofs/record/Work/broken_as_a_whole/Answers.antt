use Rattle.std.proofs.Common.{ap}
use Rattle.std.specs.Prelude.{not}
use Rattle.lp_verify.proofs.record.Work.broken_as_a_whole.Goals as goal

pub returns-clause-head : goal.returns-clause-head
returns-clause-head c = λ s language basics same low alls. ap not (c.has_fine_head-fine.ensures.fine c.args.shared.now.lists s language basics same low alls)
