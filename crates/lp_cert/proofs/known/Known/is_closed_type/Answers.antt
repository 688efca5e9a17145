use Rattle.std.proofs.Common.{◌∙◌}
use Rattle.lp_cert.proofs.Marking.{mark_is}
use Rattle.lp_cert.proofs.known.Known.is_closed_type.Goals as goal

pub returns-clause-closed : goal.returns-clause-closed
returns-clause-closed c = c.type_fact.ensures ∙ mark_is c.args.bank.now _ c.args.of.0 c.in_ok-find_types.ensures.known c.in_ok-find_types.ensures.all
