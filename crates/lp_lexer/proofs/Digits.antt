-- What begins with a digit is the longest of all numbers and reals there.
use Rattle.std.proofs.Common.{◌≡◌, ℕ, ◌<◌, ◌≤◌, ◌^◌, List, ◌∷◌, take, true, false, refl, sym, ◌∙◌, subst, arith, true≢false, inl, inr}
use Rattle.std.specs.Prelude.{pos, nat_lt}
use Rattle.std.proofs.lemmas.Bool.{ltb-true, ltb-false, cond_both}
use Rattle.lp_lexer.specs.declared.class.Class.TheVariants.{Digit}
use Rattle.lp_lexer.specs.declared.token.TokenKind.{TokenKind}
use Rattle.lp_lexer.specs.declared.token.TokenKind.TheVariants as kind
use Rattle.lp_lexer.specs.declared.token.Piece.TheVariants.{Found, BigNumber}
use Rattle.lp_lexer.specs.Bytes.{is_in, run}
use Rattle.lp_lexer.specs.Front.{decimal_from, number_of, number_at}
use Rattle.lp_lexer.specs.Stands.{Begins, IsLongest, HasNoGap, IsBounded, Stands}
use Rattle.lp_lexer.proofs.Leads.{digit, of_digit}
use Rattle.lp_lexer.proofs.Runs.{led_form, led_longest}
use Rattle.lp_lexer.proofs.Reals.{HasPart, real_len, real_is, real_form}
use Rattle.lp_lexer.proofs.Fronts.{shape_at}
use Rattle.lp_lexer.proofs.Within.{run_within, real_within}

-- a number is no longer than its digits
number_at_most : (b : ℕ) (t : List ℕ) (k : TokenKind) (m : ℕ) → is_in Digit b ≡ true → HasPart (run Digit (b ∷ t)) (b ∷ t) ≡ false → Begins (b ∷ t) k m → (m ≤ run Digit (b ∷ t)) × (k ≡ kind.Number (pos (decimal_from 0 (take m (b ∷ t)))))
number_at_most b t k m e f h = elim (shape_at digit b t k m (of_digit b e) h) [
  | inl s ↦ (led_longest Digit Digit b t m e h.within s.1, s.0)
  | inr s ↦ absurd (true≢false (sym (real_is (b ∷ t) m h.within s.1).0 ∙ f))
]

number_longest : (b : ℕ) (t : List ℕ) → is_in Digit b ≡ true → HasPart (run Digit (b ∷ t)) (b ∷ t) ≡ false → IsLongest (b ∷ t) (kind.Number (pos (decimal_from 0 (take (run Digit (b ∷ t)) (b ∷ t))))) (run Digit (b ∷ t))
number_longest b t e f = record {
  begins = record { within = run_within Digit (b ∷ t); form = (led_form Digit Digit b t e e, refl); apart = λ s. absurd (cc) };
  longest = λ k m h. (number_at_most b t k m e f h).0;
  only = λ k h. (number_at_most b t k _ e f h).1;
}

bounded : (v : ℕ) → v < 2 ^ 63 → IsBounded (kind.Number (pos v))
bounded v h w e = let q : v ≡ w = cc in subst (λ x. x < 2 ^ 63) q h

number_stands : (b : ℕ) (t : List ℕ) → is_in Digit b ≡ true → HasNoGap (b ∷ t) → HasPart (run Digit (b ∷ t)) (b ∷ t) ≡ false → Stands (b ∷ t) (number_of (run Digit (b ∷ t)) (decimal_from 0 (take (run Digit (b ∷ t)) (b ∷ t))))
number_stands b t e gap f =
    let r = run Digit (b ∷ t) in
    let v = decimal_from 0 (take r (b ∷ t)) in
    cond_both (nat_lt v (2 ^ 63)) (Found (kind.Number (pos v)) r) BigNumber (Stands (b ∷ t)) (λ l. (number_longest b t e f, bounded v (ltb-true v (2 ^ 63) l), gap)) (λ l. (v, r, number_longest b t e f, ltb-false v (2 ^ 63) l, gap))

real_at_most : (b : ℕ) (t : List ℕ) (k : TokenKind) (m : ℕ) → is_in Digit b ≡ true → Begins (b ∷ t) k m → m ≤ real_len (b ∷ t)
real_at_most b t k m e h = elim (shape_at digit b t k m (of_digit b e) h) [
  | inl s ↦ let l = led_longest Digit Digit b t m e h.within s.1 in omega (arith, l)
  | inr s ↦ (real_is (b ∷ t) m h.within s.1).1
]

real_only : (b : ℕ) (t : List ℕ) (k : TokenKind) → is_in Digit b ≡ true → Begins (b ∷ t) k (real_len (b ∷ t)) → k ≡ kind.Real
real_only b t k e h = elim (shape_at digit b t k (real_len (b ∷ t)) (of_digit b e) h) [
  | inl s ↦ let l = led_longest Digit Digit b t (real_len (b ∷ t)) e h.within s.1 in absurd (omega (arith, l))
  | inr s ↦ s.0
]

real_stands : (b : ℕ) (t : List ℕ) → is_in Digit b ≡ true → HasNoGap (b ∷ t) → HasPart (run Digit (b ∷ t)) (b ∷ t) ≡ true → Stands (b ∷ t) (Found kind.Real (real_len (b ∷ t)))
real_stands b t e gap f = (
  record {
    begins = record { within = (real_within (run Digit (b ∷ t)) (b ∷ t) f).1; form = real_form b t e f; apart = λ s. absurd (cc) };
    longest = λ k m h. real_at_most b t k m e h;
    only = λ k h. real_only b t k e h;
  },
  (λ v s. absurd (cc)),
  gap,
)

pub digits_stand : (b : ℕ) (t : List ℕ) → is_in Digit b ≡ true → HasNoGap (b ∷ t) → Stands (b ∷ t) (number_at (run Digit (b ∷ t)) (b ∷ t))
digits_stand b t e gap = cond_both (HasPart (run Digit (b ∷ t)) (b ∷ t)) (Found kind.Real (real_len (b ∷ t))) _ (Stands (b ∷ t)) (real_stands b t e gap) (number_stands b t e gap)
