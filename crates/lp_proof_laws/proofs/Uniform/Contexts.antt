-- Entries of two lists that are put together, and two closings joined.
use Rattle.std.proofs.Common.{◌≡◌, ℕ, zero, suc, ◌+◌, List, [], ◌∷◌, ◌++◌, length, Some, inl, inr, refl, ap, ◌∙◌, arith}
use Rattle.std.specs.Prelude.{◌⊎◌, slice_get}
use Rattle.lp_calculus.specs.Term.{Term}

pub get_front : {A : Type 0} (V K : List A) (x : ℕ) (k : A) → slice_get V x ≡ Some k → slice_get (V ++ K) x ≡ Some k
get_front [] K x k h = cc
get_front (v ∷ V) K zero k h = h
get_front (v ∷ V) K (suc x) k h = get_front V K x k h

pub get_back : {A : Type 0} (V K : List A) (x : ℕ) → slice_get (V ++ K) (length V + x) ≡ slice_get K x
get_back {A = A} [] K x = let e : length {A = A} [] + x ≡ x = omega arith in ap (slice_get K) e
get_back (v ∷ V) K x =
    let e : length (v ∷ V) + x ≡ suc (length V + x) = omega arith in
    ap (slice_get ((v ∷ V) ++ K)) e ∙ get_back V K x

pub get_split : {A : Type 0} (V K : List A) (x : ℕ) (k : A) → slice_get (V ++ K) x ≡ Some k → (slice_get V x ≡ Some k) ⊎ ((y : ℕ) × (x ≡ length V + y) × (slice_get K y ≡ Some k))
get_split [] K x k h = inr (x, omega arith, h)
get_split (v ∷ V) K zero k h = inl h
get_split (v ∷ V) K (suc x) k h =
    elim (get_split V K x k h) [ inl a ↦ inl a | inr b ↦ inr (b.0, omega (arith, b.1), b.2) ]

-- two closings, of the variables of V and of those behind them
unfoldable pub join : {A : Type 0} → List A → (s r : ℕ → Term) → ℕ → Term
join [] s r x = r x
join (v ∷ V) s r zero = s zero
join (v ∷ V) s r (suc x) = join V (λ y. s (suc y)) r x

pub join_front : {A : Type 0} (V : List A) (s r : ℕ → Term) (x : ℕ) (k : A) → slice_get V x ≡ Some k → join V s r x ≡ s x
unfolding join
join_front [] s r x k h = cc
join_front (v ∷ V) s r zero k h = refl
join_front (v ∷ V) s r (suc x) k h = join_front V (λ y. s (suc y)) r x k h

pub join_back : {A : Type 0} (V : List A) (s r : ℕ → Term) (x : ℕ) → join V s r (length V + x) ≡ r x
unfolding join
join_back {A = A} [] s r x = let e : length {A = A} [] + x ≡ x = omega arith in ap r e
join_back (v ∷ V) s r x =
    let e : length (v ∷ V) + x ≡ suc (length V + x) = omega arith in
    ap (join (v ∷ V) s r) e ∙ join_back V (λ y. s (suc y)) r x
