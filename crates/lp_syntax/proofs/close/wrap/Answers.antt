use Rattle.std.proofs.Common.{◌≡◌, ◌+◌, ◌-◌, ◌<◌, length, take, arith, refl, ap, ◌∙◌}
use Rattle.lp_syntax.specs.Machine.{wrap}
use Rattle.lp_syntax.specs.Nodes.{trees, at}
use Rattle.lp_syntax.specs.Views.{done_of}
use Rattle.lp_syntax.proofs.Arena.{grows_on}
use Rattle.lp_syntax.proofs.Views.{item_below, wrapped}
use Rattle.lp_syntax.proofs.close.wrap.Goals as goal

pub one_item-requires-clause-x : goal.one_item-requires-clause-x
one_item-requires-clause-x c =
    let l : c.over.n - 1 < length c.args.done.now = let a = c.over.invariant.n in omega (arith, a) in
    let b = item_below _ c.args.done.now (c.over.n - 1) l c.requires.done in
    let g = c.over.invariant.grows.longer in
    omega (arith, b, g)

pub over-preserved : goal.over-preserved
over-preserved c =
    let l : c.over.n - 1 < length c.args.done.now = let a = c.over.invariant.n in omega (arith, a) in
    let e : c.over.n - 1 + 1 ≡ c.over.n = omega arith in
    let k = c.in_ok-t.ensures in
    record {
      grows = grows_on _ _ _ c.over.invariant.grows k.grows;
      t = k.within;
      n = omega (arith, l);
      same = wrapped c.args.nodes.now.items c.over.nodes.items _ c.args.done.now (c.over.n - 1) c.over.t c.in_ok-t.t _ _ l refl c.over.invariant.grows
          k.grows c.requires.done k.tree (ap (λ j. wrap (done_of (trees c.over.nodes.items) (take j c.args.done.now))
          (at (trees c.over.nodes.items) c.over.t)) e ∙ c.over.invariant.same);
    }
