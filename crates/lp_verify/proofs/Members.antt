-- Numbers of registers in lists: where each stands once, and the first ones.
use Rattle.std.proofs.Common.{◌≡◌, ◌∙◌, ◌≤◌, ℕ, zero, suc, List, [], ◌∷◌, ◌++◌, map, length, replicate, Bool, true, false, Option, Some, None, ap, refl, sym, arith, inl, inr}
use Rattle.std.specs.Prelude.{nat_eq, nat_lt, ◌||◌, is_some, slice_get}
use Rattle.std.proofs.lemmas.List.{length-append, length-replicate}
use Rattle.std.proofs.lemmas.Bool.{ne_eqb, lt-ltb, le-ltb, ltb-true, ltb-false, eqb-true, eqb-false}
use Rattle.lp_lemmas.proofs.Numbers.{equal_or_above}
use Rattle.lp_lemmas.proofs.Booleans.{or_false_left, or_false_right}
use Rattle.lp_code.specs.States.{member}
use Rattle.lp_code.specs.Symbolic.{held}
use Rattle.lp_code.specs.Denote.{from_zero, started}
use Rattle.lp_verify.specs.inner.Stack.{AreOnce}

pub member_append : (r : ℕ) (xs ys : List ℕ) → member r (xs ++ ys) ≡ (member r xs || member r ys)
member_append r [] ys = refl
member_append r (x ∷ xs) ys = also (nat_eq r x) (member_append r xs ys)
  where
    also : (b : Bool) → member r (xs ++ ys) ≡ (member r xs || member r ys) → (b || member r (xs ++ ys)) ≡ ((b || member r xs) || member r ys)
    also true h = refl
    also false h = h

-- numbers that stand once
pub once_front : (xs ys : List ℕ) → AreOnce (xs ++ ys) → AreOnce xs
once_front [] ys h = tt
once_front (x ∷ xs) ys h = (or_false_left (member x xs) (member x ys) (sym (member_append x xs ys) ∙ h.0), once_front xs ys h.1)

pub once_apart : (xs ys : List ℕ) → AreOnce (xs ++ ys) → (r : ℕ) → member r xs ≡ true → member r ys ≡ false
once_apart [] ys h r m = absurd (cc)
once_apart (x ∷ xs) ys h r m = by_first (nat_eq r x) refl m (once_apart xs ys h.1 r)
  where
    by_first : (b : Bool) → nat_eq r x ≡ b → (b || member r xs) ≡ true → (member r xs ≡ true → member r ys ≡ false) → member r ys ≡ false
    by_first true e m go = ap (λ k. member k ys) (eqb-true r x e) ∙ or_false_right (member x xs) (member x ys) (sym (member_append x xs ys) ∙ h.0)
    by_first false e m go = go m

pub once_pushed : (xs : List ℕ) (r : ℕ) → AreOnce xs → member r xs ≡ false → AreOnce (xs ++ r ∷ [])
once_pushed [] r h m = (refl, tt)
once_pushed (x ∷ xs) r h m = (
  member_append x xs (r ∷ []) ∙ none (member x xs) (nat_eq x r) h.0 (other x r (or_false_left (nat_eq r x) (member r xs) m)),
  once_pushed xs r h.1 (or_false_right (nat_eq r x) (member r xs) m),
)
  where
    none : (a b : Bool) → a ≡ false → b ≡ false → (a || (b || false)) ≡ false
    none true b h k = absurd (cc)
    none false true h k = absurd (cc)
    none false false h k = refl

    other : (x r : ℕ) → nat_eq r x ≡ false → nat_eq x r ≡ false
    other x r e = ne_eqb x r (λ z. eqb-false r x e (sym z))

-- the first numbers
below_next : (r n : ℕ) (a b : Bool) → nat_lt r n ≡ a → nat_eq r n ≡ b → (a || (b || false)) ≡ nat_lt r (suc n)
below_next r n true b h k = sym (lt-ltb r (suc n) (omega (arith, ltb-true r n h)))
below_next r n false true h k = sym (lt-ltb r (suc n) (omega (arith, eqb-true r n k)))
below_next r n false false h k = sym (le-ltb r (suc n) (elim (equal_or_above n r (ltb-false r n h)) [ inl e ↦ absurd (eqb-false r n k e) | inr l ↦ l ]))

pub from_zero_has : (r n : ℕ) → member r (from_zero n) ≡ nat_lt r n
from_zero_has r zero = sym (le-ltb r 0 (omega arith))
from_zero_has r (suc n) = member_append r (from_zero n) (n ∷ []) ∙ ap (λ b. b || (nat_eq r n || false)) (from_zero_has r n) ∙ below_next r n (nat_lt r n) (nat_eq r n) refl refl

pub once_from_zero : (n : ℕ) → AreOnce (from_zero n)
once_from_zero zero = tt
once_from_zero (suc n) = once_pushed (from_zero n) n (once_from_zero n) (from_zero_has n n ∙ le-ltb n n (omega arith))

-- what stands in the first registers
pub some_below : {A : Type 0} (xs : List A) (r : ℕ) → is_some (slice_get xs r) ≡ nat_lt r (length xs)
some_below [] r = sym (le-ltb r 0 (omega arith))
some_below (x ∷ xs) zero = sym (lt-ltb 0 (suc (length xs)) (omega arith))
some_below (x ∷ xs) (suc r) = some_below xs r ∙ next (nat_lt r (length xs)) refl
  where
    next : (b : Bool) → nat_lt r (length xs) ≡ b → nat_lt r (length xs) ≡ nat_lt (suc r) (suc (length xs))
    next true e = let l = ltb-true r (length xs) e in e ∙ sym (lt-ltb (suc r) (suc (length xs)) (omega (arith, l)))
    next false e = let l = ltb-false r (length xs) e in e ∙ sym (le-ltb (suc r) (suc (length xs)) (omega (arith, l)))

abbrev no_values : (A : Type 0) → ℕ → List (Option A)
no_values A n = replicate n None

none_started : (A : Type 0) (n r : ℕ) → held (no_values A n) r ≡ None
none_started A zero r = refl
none_started A (suc n) zero = refl
none_started A (suc n) (suc r) = none_started A n r

pub started_at : {A : Type 0} (xs : List A) (n r : ℕ) → held (started xs n) r ≡ slice_get xs r
started_at {A} [] n r = none_started A n r
started_at (x ∷ xs) n zero = refl
started_at (x ∷ xs) n (suc r) = started_at xs n r

pub started_length : {A : Type 0} (xs : List A) (n : ℕ) → n ≤ length (started xs n)
started_length {A} xs n =
    let e = length-append (map (λ (x : A). Some x) xs) (no_values A n) in
    let nothing : Option A = None in
    let f = length-replicate n nothing in
    omega (arith, e, f)
