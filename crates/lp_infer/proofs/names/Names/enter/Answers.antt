use Rattle.lp_infer.specs.Scanning.{level_in}
use Rattle.lp_infer.proofs.names.Names.enter.Goals as goal

pub returns-clause-level : goal.returns-clause-level
unfolding level_in
returns-clause-level c = record { level = c.args.self.now.depth; inside = c.in_ok-set_level.ensures.level; before = c.level-outside.ensures }
