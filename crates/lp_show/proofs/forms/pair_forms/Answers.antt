use Rattle.std.proofs.Common.{◌<◌, ◌≤◌, ◌+◌, ◌++◌, ◌∷◌, [], drop, length, sym, ap, subst, arith, append-nil}
use Rattle.std.specs.Prelude.{All}
use Rattle.std.proofs.lemmas.List.Elements.{All-push, All-nil}
use Rattle.lp_term.specs.Nodes.{tree}
use Rattle.lp_term.proofs.Trees.{extends_same, extends-trans}
use Rattle.lp_model.specs.Whole.{CanPairBeShown}
use Rattle.lp_show.specs.Forms.{AreSides, IsFirstDeep, IsShownForm, pair_trees, sides_of}
use Rattle.lp_show.specs.Sides.{IsDeepPair, IsSidesIn, side_trees}
use Rattle.lp_show.proofs.Formings.{can_pair_later, from_here, later_deep, none_left, one_side, pair_deep, pairs_further, sides_later}
use Rattle.lp_show.proofs.forms.pair_forms.Goals as goal

pub pairs-init : goal.pairs-init
pairs-init c = record {
  within = omega arith;
  kept = extends_same c.args.bank.now;
  held = subst (All (IsSidesIn c.args.bank.now)) (sym c.new-forms.ensures.items) (All-nil (IsSidesIn c.args.bank.now));
  forms = λ fs a. subst (λ l. AreSides (pair_trees c.args.bank.now c.args.pairs.now.items) (side_trees c.args.bank.now l ++ fs)) (sym c.new-forms.ensures.items) a;
  deep = λ e h. h;
}

pub pair_form-requires : goal.pair_form-requires
pair_form-requires c =
    let p = c.index.result.now in
    let lt : c.pairs.at < length c.args.pairs.now.items = omega (arith, c.pairs-test.true, c.len.ensures, c.args.pairs.now.ok) in
    can_pair_later c.args.bank.now c.pairs.bank p c.pairs.invariant.kept (subst (CanPairBeShown c.args.bank.now) (sym c.index.ensures) (c.requires c.pairs.at p lt))

pub pairs-preserved : goal.pairs-preserved
pairs-preserved c =
    let b0 = c.args.bank.now in
    let b1 = c.pairs.bank in
    let b2 = c.pair_form.new.bank in
    let x = c.pairs.invariant.kept in
    let y = c.pair_form.ensures.kept in
    let i = c.pairs.at in
    let p = c.index.result.now in
    let s = c.in-Ok.sides in
    let lt : i < length c.args.pairs.now.items = omega (arith, c.pairs-test.true, c.len.ensures, c.args.pairs.now.ok) in
    let q = from_here (λ p. (tree b0 p.left.0, tree b0 p.right.0)) c.args.pairs.now.items i p lt c.index.ensures in
    let can : CanPairBeShown b0 p = subst (CanPairBeShown b0) (sym c.index.ensures) (c.requires i p lt) in
    let f = subst (λ u. IsShownForm u (tree b2 s.left.0)) (x.same_terms p.left.0 can.0.0) c.in-Ok.ensures.left in
    let g = subst (λ u. IsShownForm u (tree b2 s.right.0)) (x.same_terms p.right.0 can.1.0) c.in-Ok.ensures.right in
    record {
      within = omega (arith, lt);
      kept = extends-trans b0 b1 b2 x y;
      held =
          subst (All (IsSidesIn b2)) (sym c.in_ok-push.ensures.items)
          (All-push (IsSidesIn b2) c.pairs.forms.items s (sides_later b0 b1 b2 x y c.pairs.forms.items c.pairs.invariant.held) c.in-Ok.ensures.within);
      forms =
          pairs_further _ _ _ (side_trees b1 c.pairs.forms.items) (side_trees b2 c.push.new.self.items) (tree b0 p.left.0, tree b0 p.right.0) (tree b2 s.left.0, tree b2 s.right.0) q f g
          (λ fs. one_side b1 b2 y c.pairs.forms.items c.push.new.self.items s fs c.pairs.invariant.held c.in_ok-push.ensures.items) c.pairs.invariant.forms;
      deep = λ e h.
          c.pairs.invariant.deep e
          (subst (λ l. IsFirstDeep (sides_of l) e) (sym q)
          (later_deep (tree b0 p.left.0) (tree b2 s.left.0) (tree b0 p.right.0 ∷ sides_of (pair_trees b0 (drop (i + 1) c.args.pairs.now.items))) e f (later_deep (tree b0 p.right.0) (tree b2 s.right.0) (sides_of (pair_trees b0 (drop (i + 1) c.args.pairs.now.items))) e g h)));
    }

pub returns-in-Err : goal.returns-in-Err
returns-in-Err c =
    let b0 = c.args.bank.now in
    let x = c.pairs.invariant.kept in
    let i = c.pairs.at in
    let p = c.index.result.now in
    let e = c.in-Err.refusal in
    let lt : i < length c.args.pairs.now.items = omega (arith, c.pairs-test.true, c.len.ensures, c.args.pairs.now.ok) in
    let q = from_here (λ p. (tree b0 p.left.0, tree b0 p.right.0)) c.args.pairs.now.items i p lt c.index.ensures in
    let can : CanPairBeShown b0 p = subst (CanPairBeShown b0) (sym c.index.ensures) (c.requires i p lt) in
    let d = subst (λ u. IsDeepPair u (tree b0 p.right.0) e) (x.same_terms p.left.0 can.0.0) (subst (λ u. IsDeepPair (tree c.pairs.bank p.left.0) u e) (x.same_terms p.right.0 can.1.0) c.in-Err.ensures.refused) in
    record {
      kept = extends-trans b0 c.pairs.bank c.pair_form.new.bank x c.pair_form.ensures.kept;
      within = tt;
      forms = tt;
      refused =
          c.pairs.invariant.deep e
          (subst (λ l. IsFirstDeep (sides_of l) e) (sym q) (pair_deep (tree b0 p.left.0, tree b0 p.right.0) (pair_trees b0 (drop (i + 1) c.args.pairs.now.items)) e d));
    }

pub returns : goal.returns
returns c =
    let b0 = c.args.bank.now in
    let lt : length c.args.pairs.now.items ≤ c.pairs.at = omega (arith, c.pairs-test.false, c.len.ensures, c.args.pairs.now.ok) in
    let q = none_left (λ p. (tree b0 p.left.0, tree b0 p.right.0)) c.args.pairs.now.items c.pairs.at lt in
    record {
      kept = c.pairs.invariant.kept;
      within = c.pairs.invariant.held;
      forms =
          subst (AreSides (pair_trees b0 c.args.pairs.now.items)) (append-nil (side_trees c.pairs.bank c.pairs.forms.items))
          (c.pairs.invariant.forms [] (subst (λ l. AreSides l []) (sym q) tt));
      refused = tt;
    }
