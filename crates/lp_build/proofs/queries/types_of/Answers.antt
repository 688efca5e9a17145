use Rattle.std.proofs.Common.{◌∙◌, sym, ap, subst, ◌+◌}
use Rattle.std.specs.Prelude.{nat_eq, unwrap_or}
use Rattle.indexmap.specs.IndexMap.{get}
use Rattle.lp_term.specs.Node.{TypeBelow}
use Rattle.lp_term.specs.Shapes.{type_shape}
use Rattle.lp_build.proofs.Placing.{tree_more}
use Rattle.lp_build.proofs.queries.types_of.Goals as goal

pub put_renumbered-requires : goal.put_renumbered-requires
put_renumbered-requires c = subst (λ n. TypeBelow n (type_shape c.type_node.result)) (sym c.loop-number.invariant.count) c.type_node.ensures.older

pub loop-number-preserved : goal.loop-number-preserved
loop-number-preserved c = record {
  count = c.in_ok-put_renumbered.ensures.count ∙ ap (λ n. n + 1) c.loop-number.invariant.count;
  trees = tree_more (λ k. unwrap_or (get nat_eq c.args.numbers.now k) k) c.loop-number.types c.put_renumbered.new.bank c.args.bank.now
      c.loop-number.number (type_shape c.type_node.result) c.loop-number.invariant.count
      c.put_renumbered.ensures.kept c.in_ok-put_renumbered.ensures.tree c.type_node.ensures.older c.type_node.ensures.tree c.loop-number.invariant.trees;
}
