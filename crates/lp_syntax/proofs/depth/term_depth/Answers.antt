use Rattle.std.proofs.Common.{◌<◌, ◌≤◌, [], ◌∷◌, length, length-append, sym, ap, ◌∙◌, subst, arith, is_ok, get_or}
use Rattle.std.specs.Prelude.{slice_get, Some}
use Rattle.std.proofs.ResultArms.{chosen}
use Rattle.std.proofs.lemmas.Grind.{common_steps}
use Rattle.std.proofs.lemmas.Option.{slice_get-get_or}
use Rattle.lp_syntax.specs.Depth.{AreDepths, IsDepth}
use Rattle.lp_syntax.proofs.Depths.{no_depth, depth_more, term_within}
use Rattle.lp_syntax.proofs.depth.term_depth.Goals as goal

pub loop-node-init : goal.loop-node-init
loop-node-init c = record { as_many = ap length c.new-depths.ensures.items; are = no_depth c.args.nodes.now _ c.new-depths.ensures.items }

pub loop-node-preserved : goal.loop-node-preserved
loop-node-preserved c =
    let l : c.loop-node.node-index < length c.args.nodes.now = grind (arith, common_steps) in
    let v = c.loop-node.invariant in
    let e = chosen _ _ _ _ c.push.ensures.items (ap is_ok c.in_ok-push.was) in
    let m = v.as_many in
    let n = ap length e in
    let w = length-append c.loop-node.depths.items (c.in_ok-depth.depth ∷ []) in
    record {
      as_many = omega (arith, m, n, w);
      are = depth_more c.args.nodes.now c.loop-node.depths.items _ c.in_ok-depth.depth v.are
          (λ spot ls i t p s. c.in_ok-depth.ensures spot ls i t (subst (AreDepths c.args.nodes.now) (sym c.deref.ensures.value) v.are)
          (p ∙ ap length (sym c.deref.ensures.value)) (ap (slice_get c.args.nodes.now) (p ∙ m) ∙ slice_get-get_or c.args.nodes.now
          c.loop-node.node-index c.node-item.result l ∙ ap Some (sym c.node-item.is)) s) e;
    }

pub returns : goal.returns
returns c =
    let u : length c.args.nodes.now ≤ c.loop-node.node-index = grind (arith, common_steps) in
    let v = c.loop-node.invariant in
    let m = v.as_many in
    λ spot ls t s. let w = term_within spot ls c.args.nodes.now c.args.root t s in subst (IsDepth ls t) (sym (c.depth_at.ensures ∙ ap (λ l. get_or l c.args.root 0) c.deref-2.ensures.value)) (v.are spot ls c.args.root t (omega (arith, u, m, w)) s)
