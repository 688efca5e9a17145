-- Further eigenconstants among those that are there: places and lists of types.
use Rattle.std.proofs.Common.{◌≡◌, ℕ, zero, suc, ◌<◌, ◌≤◌, ◌⊎◌, inl, inr, min, List, [], ◌∷◌, ◌++◌, length, ◌∙◌, refl, sym, ap, subst as transport, arith, nat_eq, Some, None}
use Rattle.std.specs.Prelude.{nat_lt, nat_le, slice_get}
use Rattle.std.proofs.lemmas.Bool.Decides.{nat_tests}
use Rattle.lp_calculus.specs.Types.{Ty}
use Rattle.lp_calculus.specs.Typing.{eigen_type}
use Rattle.lp_model.specs.Variables.{IsPrefix}
use Rattle.lp_search_laws.specs.Widened.{Additions, widened, wider, moved_to, olds}
use Rattle.lp_search_laws.proofs.Moved.Terms.{Moving}

wider_less : (ads : Additions) (i j : ℕ) → i < j → wider ads i < wider ads j
wider_less [] i j h = h
wider_less (Some T ∷ ads) i j h = let r = wider_less ads i j h in let q : suc (wider ads i) < suc (wider ads j) = omega (arith, r) in q
wider_less (None ∷ ads) zero zero h = absurd (omega (arith, h))
wider_less (None ∷ ads) zero (suc j) h = let q : 0 < suc (wider ads j) = omega arith in q
wider_less (None ∷ ads) (suc i) zero h = absurd (omega (arith, h))
wider_less (None ∷ ads) (suc i) (suc j) h = let r = wider_less ads i j (omega (arith, h)) in let q : suc (wider ads i) < suc (wider ads j) = omega (arith, r) in q

-- two numbers and two others in the same order
pub data Alike (i j a b : ℕ) : Type 0 where
  less : i < j → a < b → Alike i j a b
  equal : i ≡ j → a ≡ b → Alike i j a b
  more : j < i → b < a → Alike i j a b

trichotomy : (i j : ℕ) → (i < j) ⊎ ((i ≡ j) ⊎ (j < i))
trichotomy zero zero = inr (inl refl)
trichotomy zero (suc j) = inl (omega arith)
trichotomy (suc i) zero = inr (inr (omega arith))
trichotomy (suc i) (suc j) = elim (trichotomy i j) [ inl h ↦ inl (omega (arith, h)) | inr (inl e) ↦ inr (inl (ap suc e)) | inr (inr h) ↦ inr (inr (omega (arith, h))) ]

pub alike : (ads : Additions) (i j : ℕ) → Alike i j (wider ads i) (wider ads j)
alike ads i j = elim (trichotomy i j) [ inl h ↦ less h (wider_less ads i j h) | inr (inl e) ↦ equal e (ap (wider ads) e) | inr (inr h) ↦ more h (wider_less ads j i h) ]

pub same_lt : (i j a b : ℕ) → Alike i j a b → nat_lt a b ≡ nat_lt i j
same_lt i j a b (less h g) = grind (arith, nat_tests, h, g)
same_lt i j a b (equal h g) = grind (arith, nat_tests, h, g)
same_lt i j a b (more h g) = grind (arith, nat_tests, h, g)

pub same_eq : (i j a b : ℕ) → Alike i j a b → nat_eq a b ≡ nat_eq i j
same_eq i j a b (less h g) = grind (arith, nat_tests, h, g)
same_eq i j a b (equal h g) = grind (arith, nat_tests, h, g)
same_eq i j a b (more h g) = grind (arith, nat_tests, h, g)

pub same_le : (i j a b : ℕ) → Alike i j a b → nat_le a b ≡ nat_le i j
same_le i j a b (less h g) = grind (arith, nat_tests, h, g)
same_le i j a b (equal h g) = grind (arith, nat_tests, h, g)
same_le i j a b (more h g) = grind (arith, nat_tests, h, g)

-- an old one and a level
pub alike_eigens : (ads : Additions) (j k : ℕ) → Alike j k (moved_to ads j) (moved_to ads k)
alike_eigens ads zero zero = equal refl refl
alike_eigens ads zero (suc k) = less (omega arith) (omega arith)
alike_eigens ads (suc j) zero = more (omega arith) (omega arith)
alike_eigens ads (suc j) (suc k) = go (alike ads j k)
  where
    go : Alike j k (wider ads j) (wider ads k) → Alike (suc j) (suc k) (suc (wider ads j)) (suc (wider ads k))
    go (less h g) = less (omega (arith, h)) (omega (arith, g))
    go (equal h g) = equal (ap suc h) (ap suc g)
    go (more h g) = more (omega (arith, h)) (omega (arith, g))

pub above_same : (ads : Additions) (l k : ℕ) → nat_lt (wider ads l) (moved_to ads k) ≡ nat_lt l k
above_same ads l zero = let q : nat_lt (wider ads l) 0 ≡ nat_lt l 0 = grind (arith, nat_tests) in q
above_same ads l (suc k) = go (alike ads l k)
  where
    go : Alike l k (wider ads l) (wider ads k) → nat_lt (wider ads l) (suc (wider ads k)) ≡ nat_lt l (suc k)
    go (less h g) = grind (arith, nat_tests, h, g)
    go (equal h g) = grind (arith, nat_tests, h, g)
    go (more h g) = grind (arith, nat_tests, h, g)

pub up_to_same : (ads : Additions) (k l : ℕ) → nat_le (moved_to ads k) (wider ads l) ≡ nat_le k l
up_to_same ads zero l = let q : nat_le 0 (wider ads l) ≡ nat_le 0 l = grind (arith, nat_tests) in q
up_to_same ads (suc k) l = go (alike ads k l)
  where
    go : Alike k l (wider ads k) (wider ads l) → nat_le (suc (wider ads k)) (wider ads l) ≡ nat_le (suc k) l
    go (less h g) = grind (arith, nat_tests, h, g)
    go (equal h g) = grind (arith, nat_tests, h, g)
    go (more h g) = grind (arith, nat_tests, h, g)

pub least_same : (ads : Additions) (i j : ℕ) → min (wider ads i) (wider ads j) ≡ wider ads (min i j)
least_same ads i j = go (alike ads i j)
  where
    go : Alike i j (wider ads i) (wider ads j) → min (wider ads i) (wider ads j) ≡ wider ads (min i j)
    go (less h g) = let a : min (wider ads i) (wider ads j) ≡ wider ads i = omega (arith, g) in let b : i ≡ min i j = omega (arith, h) in a ∙ ap (wider ads) b
    go (equal h g) = let a : min (wider ads i) (wider ads j) ≡ wider ads i = omega (arith, g) in let b : i ≡ min i j = omega (arith, h) in a ∙ ap (wider ads) b
    go (more h g) = let a : min (wider ads i) (wider ads j) ≡ wider ads j = omega (arith, g) in let b : j ≡ min i j = omega (arith, h) in a ∙ ap (wider ads) b

-- behind the old ones that are told of, what comes next stays what comes next
pub wider_next : (ads : Additions) (l : ℕ) → olds ads ≤ l → wider ads (suc l) ≡ suc (wider ads l)
wider_next [] l h = refl
wider_next (Some T ∷ ads) l h = ap suc (wider_next ads l h)
wider_next (None ∷ ads) zero h = absurd (omega (arith, h))
wider_next (None ∷ ads) (suc l) h = ap suc (wider_next ads l (omega (arith, h)))

abbrev pub moving : Additions → Moving
moving ads = record {
  level = wider ads;
  eigen = moved_to ads;
  from = olds ads;
  same_levels = λ l m. same_eq l m (wider ads l) (wider ads m) (alike ads l m);
  same_eigens = λ j k. same_eq j k (moved_to ads j) (moved_to ads k) (alike_eigens ads j k);
  lower = λ l m. same_lt l m (wider ads l) (wider ads m) (alike ads l m);
  at_most = λ l m. same_le l m (wider ads l) (wider ads m) (alike ads l m);
  above = above_same ads;
  up_to = up_to_same ads;
  least = least_same ads;
  next = λ l h. refl;
  next_level = wider_next ads;
}

-- lists of types
pub widened_length : (ads : Additions) (E : List Ty) → length (widened ads E) ≡ wider ads (length E)
widened_length [] E = refl
widened_length (Some T ∷ ads) E = ap suc (widened_length ads E)
widened_length (None ∷ ads) [] = refl
widened_length (None ∷ ads) (U ∷ E) = ap suc (widened_length ads E)

widened_get : (ads : Additions) (E : List Ty) (i : ℕ) (T : Ty) → slice_get E i ≡ Some T → slice_get (widened ads E) (wider ads i) ≡ Some T
widened_get [] E i T e = e
widened_get (Some U ∷ ads) E i T e = widened_get ads E i T e
widened_get (None ∷ ads) [] i T e = cc
widened_get (None ∷ ads) (U ∷ E) zero T e = e
widened_get (None ∷ ads) (U ∷ E) (suc i) T e = widened_get ads E i T e

pub widened_eigen : (ads : Additions) (E : List Ty) (k : ℕ) (T : Ty) → eigen_type E k ≡ Some T → eigen_type (widened ads E) (moved_to ads k) ≡ Some T
widened_eigen ads E zero T e = e
widened_eigen ads E (suc k) T e = widened_get ads E k T e

pub widened_level : (ads : Additions) (E : List Ty) (k : ℕ) → k ≤ length E → moved_to ads k ≤ length (widened ads E)
widened_level ads E zero h = omega arith
widened_level ads E (suc k) h = let r = wider_less ads k (length E) (omega (arith, h)) in let q : suc (wider ads k) ≤ wider ads (length E) = omega (arith, r) in transport (λ z. suc (wider ads k) ≤ z) (sym (widened_length ads E)) q

pub widened_prefix : (ads : Additions) (S E : List Ty) → IsPrefix S E → IsPrefix (widened ads S) (widened ads E)
widened_prefix [] S E h = h
widened_prefix (Some T ∷ ads) S E h = let r = widened_prefix ads S E h in record { rest = r.rest; is = ap (λ z. T ∷ z) r.is }
widened_prefix (None ∷ ads) [] E h = record { rest = widened (None ∷ ads) E; is = refl }
widened_prefix (None ∷ ads) (U ∷ S) [] h = let e = h.is in cc
widened_prefix (None ∷ ads) (U ∷ S) (V ∷ E) h =
    let e = h.is in
    let a : V ≡ U = cc in
    let b : E ≡ S ++ h.rest = cc in
    let r = widened_prefix ads S E (record { rest = h.rest; is = b }) in
    record { rest = r.rest; is = (λ i. a i ∷ r.is i) }

pub widened_end : (ads : Additions) (E : List Ty) (U : Ty) → olds ads ≤ length E → widened ads (E ++ U ∷ []) ≡ widened ads E ++ U ∷ []
widened_end [] E U h = refl
widened_end (Some T ∷ ads) E U h = ap (λ z. T ∷ z) (widened_end ads E U h)
widened_end (None ∷ ads) [] U h = absurd (omega (arith, h))
widened_end (None ∷ ads) (V ∷ E) U h = ap (λ z. V ∷ z) (widened_end ads E U (omega (arith, h)))

-- back from a level to the one before
abbrev pub narrower : Additions → ℕ → ℕ
narrower [] n = n
narrower (Some T ∷ ads) zero = zero
narrower (Some T ∷ ads) (suc n) = narrower ads n
narrower (None ∷ ads) zero = zero
narrower (None ∷ ads) (suc n) = suc (narrower ads n)

pub there_and_back : (ads : Additions) (n : ℕ) → narrower ads (wider ads n) ≡ n
there_and_back [] n = refl
there_and_back (Some T ∷ ads) n = there_and_back ads n
there_and_back (None ∷ ads) zero = refl
there_and_back (None ∷ ads) (suc n) = ap suc (there_and_back ads n)
