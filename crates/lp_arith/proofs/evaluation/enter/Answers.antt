use Rattle.std.proofs.Common.{ℕ, suc, reverse, sym, subst}
use Rattle.lp_calculus.specs.Term.{Term}
use Rattle.lp_calculus.specs.Convert.{Reduces}
use Rattle.lp_store.specs.Reading.{Reads}
use Rattle.lp_lemmas.proofs.Results.{passed_up}
use Rattle.lp_susp.proofs.Keeping.{reduced_same}
use Rattle.lp_arith.specs.declared.evaluation.State.TheVariants.{Visit}
use Rattle.lp_arith.specs.Meaning.{IsRefused}
use Rattle.lp_arith.specs.inner.Frames.{IsExpression, IsAt}
use Rattle.lp_arith.proofs.Turns.{reverse_pushed, entered_leaf, entered_one, entered_two, entered_other, entered_unseen}
use Rattle.lp_arith.proofs.evaluation.enter.Goals as goal

pub returns-in-Leaf-clause-at : goal.returns-in-Leaf-clause-at
returns-in-Leaf-clause-at c = λ n t k. entered_leaf c.args.store.now c.expression_of.new.store (reverse c.args.around.now.items) c.args.term n t
    c.in_ok-value.ensures.reduced k c.in-Leaf.value (subst (λ e. (x : Term) → Reads c.args.store.now c.args.term.0 x → (y : Term) × Reduces x y ×
    IsExpression c.expression_of.new.store e y) c.in-Leaf.is c.in_ok-value.ensures.is)

pub returns-in_ok-push-in-One-clause-at : goal.returns-in_ok-push-in-One-clause-at
returns-in_ok-push-in-One-clause-at c = λ n t k.
    let z = c.expression_of.new.store in
    subst (λ l. IsAt z l (Visit c.in-One.operand) (suc n) t) (sym (reverse_pushed c.args.around.now.items c.push.new.self.items _ c.in_ok-push-in-One.ensures.items))
    (entered_one c.args.store.now z (reverse c.args.around.now.items) c.args.term n t c.in_ok-value.ensures.reduced k c.in-One.operation
    c.in-One.operand (subst (λ e. (x : Term) → Reads c.args.store.now c.args.term.0 x → (y : Term) × Reduces x y × IsExpression
    c.expression_of.new.store e y) c.in-One.is c.in_ok-value.ensures.is))

pub returns-in_ok-push-in-Two-clause-at : goal.returns-in_ok-push-in-Two-clause-at
returns-in_ok-push-in-Two-clause-at c = λ n t k.
    let z = c.expression_of.new.store in
    subst (λ l. IsAt z l (Visit c.in-Two.left) (suc n) t) (sym (reverse_pushed c.args.around.now.items c.push-in-Two.new.self.items _ c.in_ok-push-in-Two.ensures.items))
    (entered_two c.args.store.now z (reverse c.args.around.now.items) c.args.term n t c.in_ok-value.ensures.reduced k c.in-Two.operation c.in-Two.left
    c.in-Two.right (subst (λ e. (x : Term) → Reads c.args.store.now c.args.term.0 x → (y : Term) × Reduces x y × IsExpression
    c.expression_of.new.store e y) c.in-Two.is c.in_ok-value.ensures.is))

pub returns-in-Other-clause-refused : goal.returns-in-Other-clause-refused
returns-in-Other-clause-refused c = λ n t k. entered_other c.args.store.now c.expression_of.new.store (reverse c.args.around.now.items) c.args.term n
    t c.in_ok-value.ensures.reduced k (subst (λ e. (x : Term) → Reads c.args.store.now c.args.term.0 x → (y : Term) × Reduces x y × IsExpression
    c.expression_of.new.store e y) c.in-Other.is c.in_ok-value.ensures.is)

pub returns-in_err-value-clause-refused : goal.returns-in_err-value-clause-refused
returns-in_err-value-clause-refused c =
    let s = c.args.store.now in
    let fs = reverse c.args.around.now.items in
    passed_up c.from_residual.result c.in_err-value.field-0.0 (λ e. (n : ℕ) (t : Term) → IsAt s fs (Visit c.args.term) n t → IsRefused t e) c.from_residual.ensures.1
    (λ n t k. entered_unseen s s fs c.args.term n t (reduced_same s) k c.in_err-value.field-0.0 c.in_err-value.ensures.refused)
