-- What the operations on integers of 64 bits give, against the definition.
use Rattle.std.proofs.Common.{◌≡◌, ℕ, zero, suc, List, length, refl, sym, ap, ◌∙◌, subst, arith, Bool, true, false, if◌then◌else◌, Option, Some, None}
use Rattle.std.specs.Prelude.{ℤ, pos, negsuc, neg_ℤ, ◌+ℤ◌, ◌-ℤ◌, ◌*ℤ◌, int_le, int_lt, int_div, int_rem, nat_le, nat_lt, ◌&&◌, Result, Ok, SomeIff, FitsSigned}
use lib.Signed.{mag_rem}
use Rattle.std.specs.Int.{w64, CanDivide, IsNonZero, cast_unsigned, cast_signed}
use Rattle.std.proofs.lemmas.Bool.Decides.{nat_tests}
use Rattle.std.proofs.lemmas.Int.{to_z-of_z}
use Rattle.lp_standard.specs.declared.constant.Constant.{Constant}
use Rattle.lp_standard.specs.declared.constant.Constant.TheVariants as fixed
use Rattle.lp_standard.specs.Constants.{number}
use Rattle.lp_term.proofs.EtaForms.{both_true}
use Rattle.lp_model.specs.declared.ending.Fault.TheVariants as fault
use Rattle.lp_model.specs.Values.{Number, Bytes, Outcome, Is, Faults, bound, binary, unary, divided, remainder, is_zero}
use Rattle.lp_model.specs.Values as model
use Rattle.lp_model.specs.declared.ending.Fault.{Fault}
use Rattle.lp_plain.specs.Evaluated.{GivesNumber}
use Rattle.lp_plain.specs.inner.Fitting.{IsFitting}

in_range : (z : ℤ) → FitsSigned w64 z → (int_le (neg_ℤ (pos bound)) z && int_lt z (pos bound)) ≡ true
in_range (pos n) h = let e : nat_lt n bound ≡ true = (let f = h.sfits in grind (arith, nat_tests, f)) in e
in_range (negsuc n) h = let e : nat_le n 9223372036854775807 ≡ true = (let f = h.sfits in grind (arith, nat_tests, f)) in rw e refl

fits_back : (z : ℤ) → (int_le (neg_ℤ (pos bound)) z && int_lt z (pos bound)) ≡ true → FitsSigned w64 z
fits_back (pos n) e = record { sfits = (let f : nat_lt n bound ≡ true = e in grind (arith, nat_tests, f)) }
fits_back (negsuc n) e = record { sfits = (let f : nat_le n 9223372036854775807 ≡ true = (both_true _ _ e).0 in grind (arith, nat_tests, f)) }

out_of_range : (z : ℤ) → (FitsSigned w64 z → ⊥) → (int_le (neg_ℤ (pos bound)) z && int_lt z (pos bound)) ≡ false
out_of_range z h = go (int_le (neg_ℤ (pos bound)) z && int_lt z (pos bound)) refl
  where
    go : (t : Bool) → (int_le (neg_ℤ (pos bound)) z && int_lt z (pos bound)) ≡ t → t ≡ false
    go false e = refl
    go true e = absurd (h (fits_back z e))

number_in : (z : ℤ) → FitsSigned w64 z → model.number z ≡ Is (Number z)
number_in z h = ap (λ (t : Bool). if t then Is (Number z) else Faults fault.Overflow) (in_range z h)

pub number_out : (z : ℤ) → (FitsSigned w64 z → ⊥) → model.number z ≡ Faults fault.Overflow
number_out z h = ap (λ (t : Bool). if t then Is (Number z) else Faults fault.Overflow) (out_of_range z h)

gives_fitting : (o : Option ℤ) (r : Result ℤ Fault) (z : ℤ) → SomeIff o (FitsSigned w64 z) z → IsFitting o r → GivesNumber r (model.number z)
gives_fitting None r z p q = subst (λ x. GivesNumber x (model.number z)) (sym q) (number_out z p)
gives_fitting (Some x) r z p q = subst (λ y. GivesNumber y (model.number z)) (sym q) (number_in z p.0 ∙ ap (λ y. Is (Number y)) (sym p.1))

-- division

-- whether a divisor is zero is seen by its bits

nonzero : (b : ℤ) → (cast_unsigned w64 b ≡ 0 → ⊥) → IsNonZero w64 b
nonzero b n = omega (arith, n)

zero_back : (b : ℤ) → FitsSigned w64 b → cast_unsigned w64 b ≡ 0 → b ≡ pos 0
zero_back b h e = sym (to_z-of_z w64 b h) ∙ ap (cast_signed w64) e

not_zero : (b : ℤ) → (cast_unsigned w64 b ≡ 0 → ⊥) → is_zero b ≡ false
not_zero (pos zero) n = absurd (n refl)
not_zero (pos (suc k)) n =
    let e : nat_le (suc k) 0 ≡ false = grind (arith, nat_tests) in
    let f : nat_le 0 (suc k) ≡ true = grind (arith, nat_tests) in
    rw (f, e) refl
not_zero (negsuc k) n = refl

pub zero_divided : (a b : ℤ) → FitsSigned w64 b → cast_unsigned w64 b ≡ 0 → divided a b ≡ Faults fault.ZeroDivisor
zero_divided a b h e = ap (divided a) (zero_back b h e)

pub zero_remainder : (a b : ℤ) → FitsSigned w64 b → cast_unsigned w64 b ≡ 0 → remainder a b ≡ Faults fault.ZeroDivisor
zero_remainder a b h e = ap (remainder a) (zero_back b h e)

if_not : {A : Type 0} (t : Bool) (x y : A) → t ≡ false → (if t then x else y) ≡ y
if_not t x y e = ap (λ z. if z then x else y) e

quotient_gives : (o : Option ℤ) (r : Result ℤ Fault) (a b : ℤ) → (cast_unsigned w64 b ≡ 0 → ⊥) → SomeIff o (CanDivide w64 a b) (int_div a b) → IsFitting o r → GivesNumber r (divided a b)
quotient_gives o r a b n p q = subst (GivesNumber r) (sym (if_not (is_zero b) (Faults fault.ZeroDivisor) (model.number (int_div a b)) (not_zero b n))) (gives_fitting o r (int_div a b) (told o p) q)
  where
    told : (x : Option ℤ) → SomeIff x (CanDivide w64 a b) (int_div a b) → SomeIff x (FitsSigned w64 (int_div a b)) (int_div a b)
    told None k = λ f. k (nonzero b n, f)
    told (Some y) k = (k.0.1, k.1)

abbrev after : Outcome → Outcome → Outcome
after o p = elim o [ Is v ↦ p | Faults f ↦ Faults f ]

rem_fits : (a b : ℤ) → FitsSigned w64 a → FitsSigned w64 (int_rem a b)
rem_fits a b h = record { sfits = let m = mag_rem a b in let f = h.sfits in omega (arith, m, f) }

remainder_gives : (o : Option ℤ) (r : Result ℤ Fault) (a b : ℤ) → FitsSigned w64 a → (cast_unsigned w64 b ≡ 0 → ⊥) → SomeIff o (CanDivide w64 a b) (int_rem a b) → IsFitting o r → GivesNumber r (remainder a b)
remainder_gives o r a b g n p q = subst (GivesNumber r) (sym (if_not (is_zero b) (Faults fault.ZeroDivisor) (after (model.number (int_div a b)) (model.number (int_rem a b))) (not_zero b n))) (told o p q)
  where
    told : (x : Option ℤ) → SomeIff x (CanDivide w64 a b) (int_rem a b) → IsFitting x r → GivesNumber r (after (model.number (int_div a b)) (model.number (int_rem a b)))
    told None k f =
        subst (λ y. GivesNumber y (after (model.number (int_div a b)) (model.number (int_rem a b)))) (sym f)
        (ap (λ y. after y (model.number (int_rem a b))) (number_out (int_div a b) (λ d. k (nonzero b n, d))))
    told (Some y) k f =
        subst (λ z. GivesNumber z (after (model.number (int_div a b)) (model.number (int_rem a b)))) (sym f)
        (ap (λ z. after z (model.number (int_rem a b))) (number_in (int_div a b) k.0.1) ∙ number_in (int_rem a b) (rem_fits a b g) ∙ ap (λ z. Is (Number z)) (sym k.1))

-- x and y are a and b, read again from their bits
module _ (a b x y : ℤ) (ea : x ≡ a) (eb : y ≡ b) (o : Option ℤ) (r : Result ℤ Fault) (f : IsFitting o r) where
  both_at : (P : ℤ → ℤ → Type 0) → P x y → P a b
  both_at P h = subst (P a) eb (subst (λ z. P z y) ea h)

  pub gives_quotient : (cast_unsigned w64 b ≡ 0 → ⊥) → SomeIff o (CanDivide w64 x y) (int_div x y) → GivesNumber r (divided a b)
  gives_quotient n p = quotient_gives o r a b n (both_at (λ z w. SomeIff o (CanDivide w64 z w) (int_div z w)) p) f

  pub gives_remainder : FitsSigned w64 a → (cast_unsigned w64 b ≡ 0 → ⊥) → SomeIff o (CanDivide w64 x y) (int_rem x y) → GivesNumber r (remainder a b)
  gives_remainder g n p = remainder_gives o r a b g n (both_at (λ z w. SomeIff o (CanDivide w64 z w) (int_rem z w)) p) f

  of_two : (k c : Constant) → c ≡ k → GivesNumber r (binary (number k) (Number x) (Number y)) → GivesNumber r (binary (number c) (Number a) (Number b))
  of_two k c e g = subst (λ z. GivesNumber r (binary (number z) (Number a) (Number b))) (sym e) (both_at (λ z w. GivesNumber r (binary (number k) (Number z) (Number w))) g)

  pub gives_sum : (c : Constant) → c ≡ fixed.Add → SomeIff o (FitsSigned w64 (x +ℤ y)) (x +ℤ y) → GivesNumber r (binary (number c) (Number a) (Number b))
  gives_sum c e p = of_two fixed.Add c e (gives_fitting o r (x +ℤ y) p f)

  pub gives_difference : (c : Constant) → c ≡ fixed.Subtract → SomeIff o (FitsSigned w64 (x -ℤ y)) (x -ℤ y) → GivesNumber r (binary (number c) (Number a) (Number b))
  gives_difference c e p = of_two fixed.Subtract c e (gives_fitting o r (x -ℤ y) p f)

  pub gives_product : (c : Constant) → c ≡ fixed.Multiply → SomeIff o (FitsSigned w64 (x *ℤ y)) (x *ℤ y) → GivesNumber r (binary (number c) (Number a) (Number b))
  gives_product c e p = of_two fixed.Multiply c e (gives_fitting o r (x *ℤ y) p f)

-- an operation that is another function of the code
pub gives_by : (c k : Constant) (r : Result ℤ Fault) (a b x y : ℤ) → x ≡ a → y ≡ b → c ≡ k → GivesNumber r (binary (number k) (Number x) (Number y)) → GivesNumber r (binary (number c) (Number a) (Number b))
gives_by c k r a b x y ea eb e g = subst (λ z. GivesNumber r (binary (number z) (Number a) (Number b))) (sym e) (subst (λ z. GivesNumber r (binary (number k) (Number a) (Number z))) eb (subst (λ z. GivesNumber r (binary (number k) (Number z) (Number y))) ea g))

pub gives_negation : (c : Constant) (a x : ℤ) → x ≡ a → (o : Option ℤ) (r : Result ℤ Fault) → IsFitting o r → c ≡ fixed.Negate → SomeIff o (FitsSigned w64 (neg_ℤ x)) (neg_ℤ x) → GivesNumber r (unary (number c) (Number a))
gives_negation c a x q o r f e p = subst (λ z. GivesNumber r (unary (number z) (Number a))) (sym e) (subst (λ z. GivesNumber r (model.number (neg_ℤ z))) q (gives_fitting o r (neg_ℤ x) p f))

pub gives_size : (c : Constant) (s : List ℕ) (n : ℕ) (z : ℤ) → c ≡ fixed.Size → length s ≡ n → FitsSigned w64 (pos n) → z ≡ pos n → GivesNumber (Ok z) (unary (number c) (Bytes s))
gives_size c s n z e l h q = ap (λ k. unary (number k) (Bytes s)) e ∙ ap (λ k. model.number (pos k)) l ∙ number_in (pos n) h ∙ ap (λ y. Is (Number y)) (sym q)

pub no_size : (c : Constant) (s : List ℕ) (n : ℕ) → c ≡ fixed.Size → length s ≡ n → (FitsSigned w64 (pos n) → ⊥) → unary (number c) (Bytes s) ≡ Faults fault.Overflow
no_size c s n e l h = ap (λ k. unary (number k) (Bytes s)) e ∙ ap (λ k. model.number (pos k)) l ∙ number_out (pos n) h

-- the other operations

pub other_binary : (k : Constant) (a b : ℤ) → (k ≡ fixed.Add → ⊥) → (k ≡ fixed.Subtract → ⊥) → (k ≡ fixed.Multiply → ⊥) → (k ≡ fixed.Divide → ⊥) → (k ≡ fixed.Remainder → ⊥) →
    binary (number k) (Number a) (Number b) ≡ Faults fault.NotClosed
other_binary fixed.Add a b n m o p q = absurd (n refl)
other_binary fixed.Subtract a b n m o p q = absurd (m refl)
other_binary fixed.Multiply a b n m o p q = absurd (o refl)
other_binary fixed.Divide a b n m o p q = absurd (p refl)
other_binary fixed.Remainder a b n m o p q = absurd (q refl)
other_binary _ a b n m o p q = refl

pub other_unary : (k : Constant) (a : ℤ) → (k ≡ fixed.Negate → ⊥) → unary (number k) (Number a) ≡ Faults fault.NotClosed
other_unary fixed.Negate a n = absurd (n refl)
other_unary _ a n = refl

pub other_length : (k : Constant) (s : List ℕ) → (k ≡ fixed.Size → ⊥) → unary (number k) (Bytes s) ≡ Faults fault.NotClosed
other_length fixed.Size s n = absurd (n refl)
other_length _ s n = refl

pub other_strings : (k : Constant) (a b : List ℕ) → (k ≡ fixed.Concatenate → ⊥) → binary (number k) (Bytes a) (Bytes b) ≡ Faults fault.NotClosed
other_strings fixed.Concatenate a b n = absurd (n refl)
other_strings _ a b n = refl
