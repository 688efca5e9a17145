use Rattle.std.proofs.Common.{◌∙◌, map}
use Rattle.lp_term.specs.Nodes.{tree}
use Rattle.lp_term.proofs.Heads.{head_inside}
use Rattle.lp_term.proofs.Spines.{smaller_head}
use Rattle.lp_term.proofs.spine.head_of.Goals as goal

pub down-smaller : goal.down-smaller
down-smaller c = smaller_head c.args.bank.now c.down.top c.in-App.inner c.in-App.field-1.now c.in-App.ensures.tree c.in-App.ensures.older.2

pub down-preserved : goal.down-preserved
down-preserved c = record {
  within = λ h. c.in-App.ensures.within.0;
  tree = head_inside c.args.bank.now c.down.top (tree c.args.bank.now c.in-App.inner.0) (map (tree c.args.bank.now) (map (λ t. t.0) c.in-App.field-1.now)) c.in-App.ensures.tree ∙ c.down.invariant.tree;
}
