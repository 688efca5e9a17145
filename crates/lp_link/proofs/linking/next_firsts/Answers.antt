use Rattle.std.proofs.Common.{arith}
use Rattle.lp_link.specs.inner.Entering.{ends_of}
use Rattle.lp_link.proofs.Popped.{none_mapped, one_mapped}
use Rattle.lp_link.proofs.linking.next_firsts.Goals as goal

pub returns-in_default : goal.returns-in_default
returns-in_default c = λ f more e. absurd (none_mapped ends_of c.args.firsts.now.items f more (omega (arith, c.in_default.ensures.cases.0, c.args.firsts.now.ok)) e)

pub returns : goal.returns
returns c = λ f more e. one_mapped ends_of c.args.firsts.now.items c.pop.new.self.items c.in-Some.next f more c.in-Some.ensures.items e
