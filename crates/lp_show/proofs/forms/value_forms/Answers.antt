use Rattle.std.proofs.Common.{◌≡◌, ◌<◌, ◌≤◌, ◌+◌, ◌++◌, ◌∙◌, [], true, drop, length, map, sym, ap, ap₂, subst, arith, append-nil}
use Rattle.std.specs.Prelude.{All}
use Rattle.std.proofs.lemmas.List.Elements.{All-push, All-nil}
use Rattle.lp_term.specs.Frame.{in_order}
use Rattle.lp_term.specs.Nodes.{tree}
use Rattle.lp_term.proofs.Trees.{extends_same, extends-trans}
use Rattle.lp_model.specs.Shown.{is_shown}
use Rattle.lp_model.specs.Whole.{CanBeShown}
use Rattle.lp_show.specs.Forms.{AreForms, IsFirstDeep, IsShownForm, values_of}
use Rattle.lp_show.specs.Sides.{IsDeepValue}
use Rattle.lp_show.proofs.Formings.{can_later, from_here, ids_later, none_left, one_form, value_deep, value_passed, values_further}
use Rattle.lp_show.proofs.forms.value_forms.Goals as goal

pub values-init : goal.values-init
values-init c = record {
  within = omega arith;
  kept = extends_same c.args.bank.now;
  held = subst (All (λ t. t.0 < length c.args.bank.now.terms)) (sym c.new-forms.ensures.items) (All-nil (λ t. t.0 < length c.args.bank.now.terms));
  forms = λ fs a. subst (λ l. AreForms (map (λ n. n.items) c.args.names.now) (in_order c.args.bank.now c.args.values.now.items) (in_order c.args.bank.now l ++ fs)) (sym c.new-forms.ensures.items) a;
  deep = λ ts e h. h;
}

pub value_form-requires : goal.value_form-requires
value_form-requires c =
    let t = c.index.result.now in
    let lt : c.values.at < length c.args.values.now.items = omega (arith, c.values-test.true, c.requires.names) in
    can_later c.args.bank.now c.values.bank t c.values.invariant.kept (subst (CanBeShown c.args.bank.now) (sym c.index.ensures) (c.requires.values c.values.at t lt))

pub values-preserved : goal.values-preserved
values-preserved c =
    let b0 = c.args.bank.now in
    let b1 = c.values.bank in
    let b2 = c.value_form.new.bank in
    let x = c.values.invariant.kept in
    let y = c.value_form.ensures.kept in
    let i = c.values.at in
    let n = c.index-names-at.result in
    let t = c.index.result.now in
    let s = tree b2 c.in-Ok.form.0 in
    let lt : i < length c.args.values.now.items = omega (arith, c.values-test.true, c.requires.names) in
    let pn = from_here (λ n. n.items) c.args.names.now i n c.values-test.true c.index-names-at.is in
    let pt = from_here (λ t. tree b0 t.0) c.args.values.now.items i t lt c.index.ensures in
    let can : CanBeShown b0 t = subst (CanBeShown b0) (sym c.index.ensures) (c.requires.values i t lt) in
    let f : is_shown n.items ≡ true → IsShownForm (tree b0 t.0) s = λ h. subst (λ u. IsShownForm u s) (x.same_terms t.0 can.0) (c.in-Ok.ensures.form (ap is_shown c.as_slice.ensures.value ∙ h)) in
    record {
      within = omega (arith, c.values-test.true);
      kept = extends-trans b0 b1 b2 x y;
      held =
          subst (All (λ t. t.0 < length b2.terms)) (sym c.in_ok-push.ensures.items)
          (All-push (λ t. t.0 < length b2.terms) c.values.forms.items c.in-Ok.form (ids_later b0 b1 b2 x y c.values.forms.items c.values.invariant.held) c.in-Ok.ensures.within);
      forms =
          values_further _ _ _ _ (in_order b1 c.values.forms.items) (in_order b2 c.push.new.self.items) n.items (tree b0 t.0) s _ _ pn pt f
          (λ fs. one_form b0 b1 b2 x y c.values.forms.items c.push.new.self.items c.in-Ok.form fs c.values.invariant.held c.in_ok-push.ensures.items) c.values.invariant.forms;
      deep = λ ts e h.
          c.values.invariant.deep ts e
          (subst (λ l. IsFirstDeep (l ++ ts) e) (sym (ap₂ values_of pn pt))
          (value_passed n.items (map (λ n. n.items) (drop (i + 1) c.args.names.now)) (tree b0 t.0) (in_order b0 (drop (i + 1) c.args.values.now.items)) ts s e f h));
    }

pub returns-in-Err : goal.returns-in-Err
returns-in-Err c =
    let b0 = c.args.bank.now in
    let x = c.values.invariant.kept in
    let i = c.values.at in
    let n = c.index-names-at.result in
    let t = c.index.result.now in
    let lt : i < length c.args.values.now.items = omega (arith, c.values-test.true, c.requires.names) in
    let pn = from_here (λ n. n.items) c.args.names.now i n c.values-test.true c.index-names-at.is in
    let pt = from_here (λ t. tree b0 t.0) c.args.values.now.items i t lt c.index.ensures in
    let can : CanBeShown b0 t = subst (CanBeShown b0) (sym c.index.ensures) (c.requires.values i t lt) in
    let d : IsDeepValue n.items (tree b0 t.0) c.in-Err.refusal =
    subst (λ m. IsDeepValue m (tree b0 t.0) c.in-Err.refusal) c.as_slice.ensures.value (subst (λ u. IsDeepValue c.as_slice.result.now u c.in-Err.refusal) (x.same_terms t.0 can.0) c.in-Err.ensures.refused) in
    record {
      kept = extends-trans b0 c.values.bank c.value_form.new.bank x c.value_form.ensures.kept;
      within = tt;
      forms = tt;
      passed = tt;
      refused = λ ts.
          c.values.invariant.deep ts c.in-Err.refusal
          (subst (λ l. IsFirstDeep (l ++ ts) c.in-Err.refusal) (sym (ap₂ values_of pn pt))
          (value_deep n.items (map (λ n. n.items) (drop (i + 1) c.args.names.now)) (tree b0 t.0) (in_order b0 (drop (i + 1) c.args.values.now.items)) ts c.in-Err.refusal d));
    }

pub returns : goal.returns
returns c =
    let b0 = c.args.bank.now in
    let pn = none_left (λ n. n.items) c.args.names.now c.values.at c.values-test.false in
    let lt : length c.args.values.now.items ≤ c.values.at = omega (arith, c.values-test.false, c.requires.names) in
    let pt = none_left (λ t. tree b0 t.0) c.args.values.now.items c.values.at lt in
    record {
      kept = c.values.invariant.kept;
      within = c.values.invariant.held;
      forms =
          subst (AreForms (map (λ n. n.items) c.args.names.now) (in_order b0 c.args.values.now.items)) (append-nil (in_order c.values.bank c.values.forms.items))
          (c.values.invariant.forms [] (subst (λ l. AreForms l (in_order b0 (drop c.values.at c.args.values.now.items)) []) (sym pn) (subst (λ l. AreForms [] l []) (sym pt) tt)));
      passed = λ ts e h. c.values.invariant.deep ts e (subst (λ l. IsFirstDeep (l ++ ts) e) (sym (ap₂ values_of pn pt)) h);
      refused = tt;
    }
