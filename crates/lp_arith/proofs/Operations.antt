-- What an operation gives on values of the heap, by what it gives on those of the definition. Why there is no look at an expression.
use Rattle.std.proofs.Common.{◌≡◌, ℕ, List, ◌++◌, length, refl, sym, ap, ◌∙◌, subst, Ok, Err}
use Rattle.std.specs.Prelude.{ℤ, Result, IsErrAnd}
use Rattle.lp_calculus.specs.Term.{Term, atom, text}
use Rattle.lp_standard.specs.declared.constant.Constant.{Constant}
use Rattle.lp_standard.specs.declared.constant.Constant.TheVariants as fixed
use Rattle.lp_standard.specs.Constants.{number}
use Rattle.lp_term.specs.declared.reduce.TermRefusal.{TermRefusal}
use Rattle.lp_term.specs.declared.reduce.TermRefusal.TheVariants as term
use Rattle.lp_model.specs.Values.{Number, Bytes, Outcome, Is, binary, unary}
use Rattle.lp_model.specs.Values as model
use Rattle.lp_store.specs.declared.cell.CellId.{CellId}
use Rattle.lp_store.specs.Contents.{Contents}
use Rattle.lp_store.specs.Reading.{Reads}
use Rattle.lp_susp.specs.Counted.{IsDeepOnlyWhere}
use Rattle.lp_arith.specs.declared.value.Value.{Value}
use Rattle.lp_arith.specs.declared.value.Value.TheVariants.{Int, Text}
use Rattle.lp_arith.specs.declared.value.ArithRefusal.{ArithRefusal}
use Rattle.lp_arith.specs.declared.value.ArithRefusal.TheVariants.{Memory}
use Rattle.lp_arith.specs.Meaning.{IsValueIn, IsFault, GivesNumber, GivesValue}
use Rattle.lp_arith.specs.inner.Refusals.{refusal_of, IsUnseen}

-- want of memory is no fault of the definition
pub memory_faults : (e : ArithRefusal) (o : Outcome) → e ≡ Memory → IsFault e o
memory_faults e o q = subst (λ x. IsFault x o) (sym q) tt

-- a refusal that is passed up
pub refused_passed : (w : Contents) (r : Result Value ArithRefusal) (e : ArithRefusal) (o : Outcome) → IsErrAnd r (λ y. y ≡ e) → IsFault e o → GivesValue w r o
refused_passed w (Ok x) e o is p = absurd is
refused_passed w (Err y) e o is p = subst (λ z. IsFault z o) (sym is) p

-- x, y and w are a, b and z, read again from their bits

pub numbers_refuse : (c : ℕ) (a b x y : ℤ) (e : ArithRefusal) → x ≡ a → y ≡ b → IsFault e (binary c (Number x) (Number y)) → (m n : model.Value) → m ≡ Number a → n ≡ Number b → IsFault e (binary c m n)
numbers_refuse c a b x y e ea eb g m n p q = subst (λ z. IsFault e (binary c z n)) (ap Number ea ∙ sym p) (subst (λ z. IsFault e (binary c (Number x) z)) (ap Number eb ∙ sym q) g)

pub number_gives : (s : Contents) (c : ℕ) (a x z w : ℤ) → x ≡ a → w ≡ z → GivesNumber (Ok z) (unary c (Number x)) → (m : model.Value) → m ≡ Number a → GivesValue s (Ok (Int w)) (unary c m)
number_gives s c a x z w ea ez g m p = (Number w, ap (unary c) (p ∙ sym (ap Number ea)) ∙ g ∙ ap (λ y. Is (Number y)) (sym ez), refl)

pub number_refuses : (c : ℕ) (a x : ℤ) (e : ArithRefusal) → x ≡ a → IsFault e (unary c (Number x)) → (m : model.Value) → m ≡ Number a → IsFault e (unary c m)
number_refuses c a x e ea g m p = subst (λ y. IsFault e (unary c y)) (ap Number ea ∙ sym p) g

pub length_gives : (s u : Contents) (c n : ℕ) (t : CellId) (z w : ℤ) → w ≡ z → ((b : List ℕ) → Reads s t.0 (atom (text b)) → length b ≡ n) → ((b : List ℕ) → length b ≡ n → GivesNumber (Ok z) (unary c (Bytes b))) → (m : model.Value) → IsValueIn s (Text t) m →
    GivesValue u (Ok (Int w)) (unary c m)
length_gives s u c n t z w ez f g m p = (Number w, ap (unary c) p.1 ∙ g p.0 (f p.0 p.2) ∙ ap (λ y. Is (Number y)) (sym ez), refl)

pub length_refuses : (s : Contents) (c n : ℕ) (t : CellId) (e : ArithRefusal) → ((b : List ℕ) → Reads s t.0 (atom (text b)) → length b ≡ n) → ((b : List ℕ) → length b ≡ n → IsFault e (unary c (Bytes b))) → (m : model.Value) → IsValueIn s (Text t) m → IsFault e (unary c m)
length_refuses s c n t e f g m p = subst (λ x. IsFault e (unary c x)) (sym p.1) (g p.0 (f p.0 p.2))

pub joined_gives : (w : Contents) (k : Constant) (t : CellId) (a b : List ℕ) → k ≡ fixed.Concatenate → Reads w t.0 (atom (text (a ++ b))) → GivesValue w (Ok (Text t)) (binary (number k) (Bytes a) (Bytes b))
joined_gives w k t a b e p = (Bytes (a ++ b), ap (λ x. binary (number x) (Bytes a) (Bytes b)) e, (a ++ b, refl, p))

-- no look is had only where the reduction to a head-normal form is too long, or for want of memory
pub unseen : (t : Term) (r : TermRefusal) (e : ArithRefusal) → IsDeepOnlyWhere 1000000 t r → e ≡ refusal_of r → IsUnseen t e
unseen t (term.Deep n) e h q = subst (IsUnseen t) (sym q) h.1
unseen t term.Memory e h q = subst (IsUnseen t) (sym q) tt
