use Rattle.lp_module.proofs.Uses.{uses_within, modules_done}
use Rattle.lp_module.proofs.tree.uses_of.Goals as goal

pub returns-clause-within : goal.returns-clause-within
returns-clause-within c = uses_within c.args.modules.now c.loop-at.uses.items (modules_done c.args.modules.now c.loop-at.at c.loop-at.uses.items c.loop-at-test.false c.loop-at.invariant)
