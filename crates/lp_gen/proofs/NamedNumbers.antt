-- Numbers among numbers, and those that records name.
use Rattle.std.proofs.Common.{◌≡◌, ◌∙◌, ◌⊎◌, inl, inr, ⊎_elim, ◌≤◌, ◌<◌, ℕ, zero, suc, ◌+◌, List, [], ◌∷◌, ◌++◌, append_assoc, Bool, true, false, Option, Some, None, ap, refl, sym, arith, true≢false}
use Rattle.std.specs.Prelude.{nat_eq, nat_lt, ◌||◌, slice_get}
use Rattle.std.proofs.lemmas.Bool.{eq-eqb, eqb-true, ltb-true, ltb-false}
use Rattle.std.proofs.lemmas.List.{append-nil}
use Rattle.lp_code.specs.declared.record.Record.{Record}
use Rattle.lp_code.specs.States.{member}
use Rattle.lp_code.specs.Rules.{named_before, names_in}
use Rattle.lp_gen.specs.inner.GoalCode.{numbers}

no_start : {X : Type 0} (x : X) → ◌≡◌ {A = Option X} None (Some x) → ⊥
no_start x e = cc

high_or_low : (v q : ℕ) → (suc q ≤ v) ⊎ (v ≤ q)
high_or_low v q = go (nat_lt q v) refl
  where
    go : (a : Bool) → nat_lt q v ≡ a → (suc q ≤ v) ⊎ (v ≤ q)
    go true e = inl (ltb-true q v e)
    go false e = inr (ltb-false q v e)

pub member_left : (v : ℕ) (ms ns : List ℕ) → member v ms ≡ true → member v (ms ++ ns) ≡ true
member_left v [] ns e = absurd (true≢false (sym e))
member_left v (m ∷ ms) ns e = go (nat_eq v m) (λ f. member_left v ms ns f) e
  where
    go : (a : Bool) → (member v ms ≡ true → member v (ms ++ ns) ≡ true) → (a || member v ms) ≡ true → (a || member v (ms ++ ns)) ≡ true
    go true f e = refl
    go false f e = f e

pub member_right : (v : ℕ) (ms ns : List ℕ) → member v ns ≡ true → member v (ms ++ ns) ≡ true
member_right v [] ns e = e
member_right v (m ∷ ms) ns e = ap (λ a. nat_eq v m || a) (member_right v ms ns e) ∙ go (nat_eq v m)
  where
    go : (a : Bool) → (a || true) ≡ true
    go true = refl
    go false = refl

pub member_cases : (v : ℕ) (ms ns : List ℕ) (X : Type 0) → member v (ms ++ ns) ≡ true → (member v ms ≡ true → X) → (member v ns ≡ true → X) → X
member_cases v [] ns X e f h = h e
member_cases v (m ∷ ms) ns X e f h = go (nat_eq v m) (λ d k. member_cases v ms ns X d k h) e f
  where
    go : (a : Bool) → (member v (ms ++ ns) ≡ true → (member v ms ≡ true → X) → X) → (a || member v (ms ++ ns)) ≡ true → ((a || member v ms) ≡ true → X) → X
    go true r e f = f refl
    go false r e f = r e f

pub member_numbers : (v q n : ℕ) → member v (numbers q n) ≡ true → v < q + n
member_numbers v q zero e = absurd (true≢false (sym e))
member_numbers v q (suc n) e = go (nat_eq v q) refl (λ f. member_numbers v (suc q) n f) e
  where
    go : (a : Bool) → nat_eq v q ≡ a → (member v (numbers (suc q) n) ≡ true → v < suc q + n) → (a || member v (numbers (suc q) n)) ≡ true → v < q + suc n
    go true same f e = let z = eqb-true v q same in omega (arith, z)
    go false same f e = let z = f e in omega (arith, z)

pub numbers_member : (v q n : ℕ) → q ≤ v → v < q + n → member v (numbers q n) ≡ true
numbers_member v q zero le lt = absurd (omega (arith, le, lt))
numbers_member v q (suc n) le lt = go (nat_eq v q) refl (λ less. numbers_member v (suc q) n less (omega (arith, lt)))
  where
    go : (a : Bool) → nat_eq v q ≡ a → (suc q ≤ v → member v (numbers (suc q) n) ≡ true) → (a || member v (numbers (suc q) n)) ≡ true
    go true same f = refl
    go false same f = f (⊎_elim (λ e. e) (λ e. absurd (true≢false (sym (eq-eqb v q (let z : v ≡ q = omega (arith, le, e) in z)) ∙ same))) (high_or_low v q))

pub named_one_more : (all : List Record) (k : ℕ) (r : Record) → slice_get all k ≡ Some r → named_before (suc k) all ≡ named_before k all ++ names_in r.code.items
named_one_more [] k r e = absurd (no_start r e)
named_one_more (x ∷ xs) zero r e = let is : x ≡ r = cc in append-nil (names_in x.code.items) ∙ ap (λ (v : Record). names_in v.code.items) is
named_one_more (x ∷ xs) (suc k) r e = ap (λ l. names_in x.code.items ++ l) (named_one_more xs k r e) ∙ sym (append_assoc (names_in x.code.items) (named_before k xs) (names_in r.code.items))
