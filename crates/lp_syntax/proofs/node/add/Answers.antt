use Rattle.std.proofs.Common.{ap, length, is_ok}
use Rattle.std.proofs.ResultArms.{chosen}
use Rattle.lp_syntax.proofs.Arena.{added_tree, added_grows}
use Rattle.lp_syntax.proofs.node.add.Goals as goal

pub returns-clause-tree : goal.returns-clause-tree
returns-clause-tree c = added_tree c.args.nodes.now.items _ c.args.node _ (chosen _ _ _ _ c.push.ensures.items (ap is_ok c.in_ok-push.was)) (ap length c.as_slice-i.ensures.value)

pub returns-clause-grows : goal.returns-clause-grows
returns-clause-grows c = added_grows c.args.nodes.now.items _ c.args.node c.requires (chosen _ _ _ _ c.push.ensures.items (ap is_ok c.in_ok-push.was))
