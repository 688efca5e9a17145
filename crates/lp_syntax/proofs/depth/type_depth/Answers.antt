use Rattle.std.proofs.Common.{◌<◌, ◌≤◌, [], ◌∷◌, length, length-append, sym, ap, ◌∙◌, subst, arith, is_ok, get_or}
use Rattle.std.specs.Prelude.{slice_get, Some}
use Rattle.std.proofs.ResultArms.{chosen}
use Rattle.std.proofs.lemmas.Grind.{common_steps}
use Rattle.std.proofs.lemmas.Option.{slice_get-get_or}
use Rattle.lp_syntax.specs.Depth.{AreTypeDepths}
use Rattle.lp_syntax.proofs.Depths.{no_type_depth, type_depth_more, type_within}
use Rattle.lp_syntax.proofs.depth.type_depth.Goals as goal

pub loop-node-init : goal.loop-node-init
loop-node-init c = record { as_many = ap length c.new-depths.ensures.items; are = no_type_depth c.args.nodes.now _ c.new-depths.ensures.items }

pub loop-node-preserved : goal.loop-node-preserved
loop-node-preserved c =
    let l : c.loop-node.node-index < length c.args.nodes.now = grind (arith, common_steps) in
    let v = c.loop-node.invariant in
    let e = chosen _ _ _ _ c.push.ensures.items (ap is_ok c.in_ok-push.was) in
    let m = v.as_many in
    let n = ap length e in
    let w = length-append c.loop-node.depths.items (c.type_node_depth-depth.result ∷ []) in
    record {
      as_many = omega (arith, m, n, w);
      are = type_depth_more c.args.nodes.now c.loop-node.depths.items _ c.type_node_depth-depth.result v.are
          (λ spot i t p s. c.type_node_depth-depth.ensures spot i t (subst (AreTypeDepths c.args.nodes.now) (sym c.deref.ensures.value) v.are)
          (p ∙ ap length (sym c.deref.ensures.value)) (ap (slice_get c.args.nodes.now) (p ∙ m) ∙ slice_get-get_or c.args.nodes.now
          c.loop-node.node-index c.node-item.result l ∙ ap Some (sym c.node-item.is)) s) e;
    }

pub returns : goal.returns
returns c =
    let u : length c.args.nodes.now ≤ c.loop-node.node-index = grind (arith, common_steps) in
    let v = c.loop-node.invariant in
    let m = v.as_many in
    λ spot t s. let w = type_within spot c.args.nodes.now c.args.root t s in c.depth_at.ensures ∙ ap (λ l. get_or l c.args.root 0) c.deref-2.ensures.value ∙ v.are spot c.args.root t (omega (arith, u, m, w)) s
