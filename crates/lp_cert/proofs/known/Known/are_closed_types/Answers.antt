use Rattle.std.proofs.Common.{◌∙◌}
use Rattle.lp_cert.proofs.Marking.{marks_are}
use Rattle.lp_cert.proofs.known.Known.are_closed_types.Goals as goal

pub returns-clause-closed : goal.returns-clause-closed
returns-clause-closed c = c.type_facts.ensures ∙ marks_are c.args.bank.now _ _ c.in_ok-find_types.ensures.known c.in_ok-find_types.ensures.all
