use Rattle.lp_infer.specs.Scanning.{level_in}
use Rattle.lp_infer.proofs.names.Names.leave.Goals as goal

pub returns-clause-level : goal.returns-clause-level
unfolding level_in
returns-clause-level c = c.set_level.ensures.level
