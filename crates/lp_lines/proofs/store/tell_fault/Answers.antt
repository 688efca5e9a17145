use Rattle.lp_lines.proofs.Appending.{whole_prefix}
use Rattle.lp_lines.proofs.store.tell_fault.Goals as goal

pub returns-in-Ok-clause-begun : goal.returns-in-Ok-clause-begun
returns-in-Ok-clause-begun g c = whole_prefix _ _ c.args.line.now c.in-Ok.ensures.appended
