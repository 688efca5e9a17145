use Rattle.std.proofs.Common.{ℕ, ◌∷◌, reverse, sym, subst}
use Rattle.lp_calculus.specs.Term.{Term}
use Rattle.lp_lemmas.proofs.Results.{passed_up}
use Rattle.lp_susp.proofs.Keeping.{reduced_same, reduced_of}
use Rattle.lp_arith.specs.declared.evaluation.State.TheVariants.{Visit, Known}
use Rattle.lp_arith.specs.Meaning.{IsRefused}
use Rattle.lp_arith.specs.inner.Frames.{IsAt}
use Rattle.lp_arith.proofs.Turns.{reverse_pushed, left_one, refused_one, left_left, left_right, refused_right}
use Rattle.lp_arith.proofs.evaluation.leave.Goals as goal

pub returns-in_ok-known-in-One-clause-at : goal.returns-in_ok-known-in-One-clause-at
returns-in_ok-known-in-One-clause-at c = λ n t k.
    let s = c.args.store.now in
    let z = c.on_one.new.store in
    let fs = reverse c.args.around.now.items in
    left_one s z fs c.in-One.operation c.args.value n t (reduced_of s z c.in_ok-known-in-One.ensures.kept) (subst (λ x. IsAt s (x ∷ fs) (Known c.args.value) n t) c.in-One.is k) c.in_ok-known-in-One.known c.in_ok-known-in-One.ensures.gives

pub returns-in_ok-push-in-Left-clause-at : goal.returns-in_ok-push-in-Left-clause-at
returns-in_ok-push-in-Left-clause-at c = λ n t k.
    let s = c.args.store.now in
    let fs = reverse c.args.around.now.items in
    subst (λ l. IsAt s l (Visit c.in-Left.right) n t) (sym (reverse_pushed c.args.around.now.items c.push.new.self.items _ c.in_ok-push-in-Left.ensures.items))
    (left_left s fs c.in-Left.operation c.in-Left.right c.args.value n t (subst (λ x. IsAt s (x ∷ fs) (Known c.args.value) n t) c.in-Left.is k))

pub returns-in_ok-known-in-Right-clause-at : goal.returns-in_ok-known-in-Right-clause-at
returns-in_ok-known-in-Right-clause-at c = λ n t k.
    let s = c.args.store.now in
    let z = c.on_two.new.store in
    let fs = reverse c.args.around.now.items in
    left_right s z fs c.in-Right.operation c.in-Right.left c.args.value n t (reduced_of s z c.in_ok-known-in-Right.ensures.kept) (subst (λ x. IsAt s (x ∷ fs) (Known c.args.value) n t) c.in-Right.is k) c.in_ok-known-in-Right.known
    c.in_ok-known-in-Right.ensures.gives

pub returns-in_err-known-in-One-clause-refused : goal.returns-in_err-known-in-One-clause-refused
returns-in_err-known-in-One-clause-refused c =
    let s = c.args.store.now in
    let fs = reverse c.args.around.now.items in
    let e = c.in_err-known-in-One.field-0.0 in
    passed_up c.from_residual.result e (λ x. (n : ℕ) (t : Term) → IsAt s (c.args.innermost ∷ fs) (Known c.args.value) n t → IsRefused t x) c.from_residual.ensures.1
    (λ n t k. refused_one s s fs c.in-One.operation c.args.value n t (reduced_same s) (subst (λ x. IsAt s (x ∷ fs) (Known c.args.value) n t) c.in-One.is k) e c.in_err-known-in-One.ensures.gives)

pub returns-in_err-known-in-Right-clause-refused : goal.returns-in_err-known-in-Right-clause-refused
returns-in_err-known-in-Right-clause-refused c =
    let s = c.args.store.now in
    let fs = reverse c.args.around.now.items in
    let e = c.in_err-known-in-Right.field-0.0 in
    passed_up c.from_residual-in_err-known-in-Right.result e (λ x. (n : ℕ) (t : Term) → IsAt s (c.args.innermost ∷ fs) (Known c.args.value) n t → IsRefused t x) c.from_residual-in_err-known-in-Right.ensures.1
    (λ n t k. refused_right s s fs c.in-Right.operation c.in-Right.left c.args.value n t (reduced_same s) (subst (λ x. IsAt s (x ∷ fs) (Known c.args.value) n t) c.in-Right.is k) e c.in_err-known-in-Right.ensures.gives)
