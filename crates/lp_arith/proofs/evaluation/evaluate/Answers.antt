use Rattle.std.proofs.Common.{◌≡◌, [], ◌-◌, reverse, suc, refl, sym, subst, arith}
use Rattle.std.proofs.lemmas.List.{nil_from_length}
use Rattle.std.proofs.lemmas.List.Elements.{All-nil}
use Rattle.std.specs.Prelude.{All}
use Rattle.lp_calculus.specs.Term.{Term}
use Rattle.lp_lemmas.proofs.Elements.{All_push_parts}
use Rattle.lp_lemmas.proofs.Results.{passed_up}
use Rattle.lp_store.specs.Reading.{Reads}
use Rattle.lp_susp.proofs.Chains.{marks_on}
use Rattle.lp_susp.proofs.Keeping.{reduced_same, reduced_of, reduced_on}
use Rattle.lp_arith.specs.declared.evaluation.State.TheVariants.{Visit, Known}
use Rattle.lp_arith.specs.Meaning.{IsRefused}
use Rattle.lp_arith.specs.Stands.{StandsAround, StandsState}
use Rattle.lp_arith.specs.inner.Frames.{IsAt}
use Rattle.lp_arith.proofs.Turns.{at_start, at_end, at_limit, reverse_pushed, weights_pushed}
use Rattle.lp_arith.proofs.evaluation.evaluate.Goals as goal

pub parts-init : goal.parts-init
parts-init c = record {
  around = subst (All (StandsAround c.args.store.now)) (sym c.new-around.ensures.items) (All-nil (StandsAround c.args.store.now));
  state = c.requires;
  left = omega arith;
  reduced = reduced_same c.args.store.now;
  marks = λ m k. (k, refl);
  at = λ t p. subst (λ l. IsAt c.args.store.now (reverse l) (Visit c.args.cell) 0 t) (sym c.new-around.ensures.items) (at_start c.args.store.now c.args.cell t p);
}

pub parts-preserved-in-Visit : goal.parts-preserved-in-Visit
parts-preserved-in-Visit c =
    let o = c.args.store.now in
    let s = c.parts.store in
    let z = c.enter.new.store in
    let k = c.in_ok-state-in-Visit.ensures in
    record {
      around = k.around;
      state = k.state;
      left = omega (arith, c.parts.invariant.left);
      reduced = reduced_on o s z c.parts.invariant.reduced k.reduced;
      marks = marks_on o s z c.parts.invariant.marks k.marks;
      at = λ t p.
          (let e : suc (1000000 - c.parts.left) ≡ 1000000 - (c.parts.left - 1) = omega (arith, c.parts.invariant.left, c.if-left-eq0.false) in
          subst (λ n. IsAt z (reverse c.enter.new.around.items) c.in_ok-state-in-Visit.state n t) e
          (k.at (1000000 - c.parts.left) t (subst (λ x. IsAt s (reverse c.parts.around.items) x (1000000 - c.parts.left) t) c.in-Visit.is (c.parts.invariant.at t p))));
    }

pub leave-requires : goal.leave-requires
leave-requires c =
    let s = c.parts.store in
    let k = All_push_parts (StandsAround s) c.pop.new.self.items c.in-Some.innermost (subst (All (StandsAround s)) c.in-Some.ensures.items c.parts.invariant.around) in
    record { innermost = k.1; value = subst (StandsState s) c.in-Known.is c.parts.invariant.state; around = k.0 }

pub parts-preserved : goal.parts-preserved
parts-preserved c =
    let o = c.args.store.now in
    let s = c.parts.store in
    let z = c.leave.new.store in
    let k = c.in_ok-state-in-Known.ensures in
    let x = c.in-Some.innermost in
    let front = c.pop.new.self.items in
    record {
      around = k.around;
      state = k.state;
      left = c.parts.invariant.left;
      reduced = reduced_on o s z c.parts.invariant.reduced (reduced_of s z k.kept);
      marks = marks_on o s z c.parts.invariant.marks k.marks;
      at = λ t p.
          k.at (1000000 - c.parts.left) t
          (subst (λ l. IsAt s l (Known c.in-Known.value) (1000000 - c.parts.left) t) (reverse_pushed front c.parts.around.items x c.in-Some.ensures.items)
          (subst (λ y. IsAt s (reverse c.parts.around.items) y (1000000 - c.parts.left) t) c.in-Known.is (c.parts.invariant.at t p)));
    }

pub parts-smaller-in-Visit : goal.parts-smaller-in-Visit
parts-smaller-in-Visit c = omega (arith, c.in_ok-state-in-Visit.ensures.weight, c.if-left-eq0.false)

pub parts-smaller : goal.parts-smaller
parts-smaller c = (let e = weights_pushed c.pop.new.self.items c.parts.around.items c.in-Some.innermost c.in-Some.ensures.items in omega (arith, c.in_ok-state-in-Known.ensures.weight, e))

pub returns-then-left-eq0-clause-refused : goal.returns-then-left-eq0-clause-refused
returns-then-left-eq0-clause-refused c = λ t p.
    (let e : 1000000 - c.parts.left ≡ 1000000 = omega (arith, c.if-left-eq0.true) in
    at_limit c.parts.store (reverse c.parts.around.items) c.in-Visit.term (1000000 - c.parts.left) t e (subst (λ x. IsAt c.parts.store (reverse c.parts.around.items) x (1000000 - c.parts.left) t) c.in-Visit.is (c.parts.invariant.at t p)))

pub returns-in_default-clause-is : goal.returns-in_default-clause-is
returns-in_default-clause-is c = λ t p.
    let a : c.parts.around.items ≡ [] = nil_from_length c.parts.around.items (omega (arith, c.in_default.ensures.cases.0, c.parts.around.ok)) in
    at_end c.parts.store c.in-Known.value (1000000 - c.parts.left) t
    (subst (λ l. IsAt c.parts.store (reverse l) (Known c.in-Known.value) (1000000 - c.parts.left) t) a (subst (λ x. IsAt c.parts.store (reverse c.parts.around.items) x (1000000 - c.parts.left) t) c.in-Known.is (c.parts.invariant.at t p)))

pub returns-in_err-state-in-Visit-clause-refused : goal.returns-in_err-state-in-Visit-clause-refused
returns-in_err-state-in-Visit-clause-refused c =
    let s = c.parts.store in
    passed_up c.from_residual.result c.in_err-state-in-Visit.field-0.0 (λ e. (t : Term) → Reads c.args.store.now c.args.cell.0 t → IsRefused t e) c.from_residual.ensures.1
    (λ t p. c.in_err-state-in-Visit.ensures.refused (1000000 - c.parts.left) t (subst (λ x. IsAt s (reverse c.parts.around.items) x (1000000 - c.parts.left) t) c.in-Visit.is (c.parts.invariant.at t p)))

pub returns-in_err-state-in-Known-clause-refused : goal.returns-in_err-state-in-Known-clause-refused
returns-in_err-state-in-Known-clause-refused c =
    let s = c.parts.store in
    passed_up c.from_residual-in_err-state-in-Known.result c.in_err-state-in-Known.field-0.0 (λ e. (t : Term) → Reads c.args.store.now c.args.cell.0 t → IsRefused t e) c.from_residual-in_err-state-in-Known.ensures.1
    (λ t p.
    c.in_err-state-in-Known.ensures.refused (1000000 - c.parts.left) t
    (subst (λ l. IsAt s l (Known c.in-Known.value) (1000000 - c.parts.left) t) (reverse_pushed c.pop.new.self.items c.parts.around.items c.in-Some.innermost c.in-Some.ensures.items)
    (subst (λ y. IsAt s (reverse c.parts.around.items) y (1000000 - c.parts.left) t) c.in-Known.is (c.parts.invariant.at t p))))
