-- The links of a list that lead in one direction.
use Rattle.std.proofs.Common.{◌≡◌, ℕ, zero, suc, ◌+◌, ◌<◌, ◌≤◌, List, [], ◌∷◌, ◌++◌, map, length, Option, Some, None, Bool, true, refl, sym, ap, ◌∙◌, subst, arith, if◌then◌else◌, nat_lt}
use Rattle.std.specs.Prelude.{slice_get, option_map}
use Rattle.std.proofs.lemmas.Bool.Decides.{nat_tests}
use Rattle.std.proofs.lemmas.List.{map-append}
use Rattle.std.proofs.lemmas.Option.{slice_get-map}
use Rattle.lp_lemmas.proofs.Lists.{get_map}
use Rattle.lp_plain.specs.Candidates.{ahead, back, in_order}

module _ (f : ℕ → Option ℕ → Option ℕ) where
  order_at : (n : ℕ) (os : List (Option ℕ)) (k : ℕ) → slice_get (in_order f n os) k ≡ option_map (f (n + k)) (slice_get os k)
  order_at n [] k = refl
  order_at n (o ∷ os) zero = let e : n ≡ n + 0 = omega arith in ap (λ z. Some (f z o)) e
  order_at n (o ∷ os) (suc k) = let e : suc n + k ≡ n + suc k = omega arith in order_at (suc n) os k ∙ ap (λ z. option_map (f z) (slice_get os k)) e

  pub kept_at : (os : List (Option ℕ)) (k : ℕ) → slice_get (in_order f 0 os) k ≡ option_map (f k) (slice_get os k)
  kept_at os k = let e : 0 + k ≡ k = omega arith in order_at 0 os k ∙ ap (λ z. option_map (f z) (slice_get os k)) e

  order_length : (n : ℕ) (os : List (Option ℕ)) → length (in_order f n os) ≡ length os
  order_length n [] = refl
  order_length n (o ∷ os) = ap suc (order_length (suc n) os)

  pub kept_length : (os : List (Option ℕ)) → length (in_order f 0 os) ≡ length os
  kept_length os = order_length 0 os

  order_longer : (n : ℕ) (xs ys : List (Option ℕ)) → (zs : List (Option ℕ)) × (in_order f n (xs ++ ys) ≡ in_order f n xs ++ zs)
  order_longer n [] ys = (in_order f n ys, refl)
  order_longer n (x ∷ xs) ys = let r = order_longer (suc n) xs ys in (r.0, ap (λ z. f n x ∷ z) r.1)

  -- more links behind them change none of them
  pub kept_longer : {X : Type 0} (g : X → Option ℕ) (xs ys : List X) → (zs : List (Option ℕ)) × (in_order f 0 (map g (xs ++ ys)) ≡ in_order f 0 (map g xs) ++ zs)
  kept_longer g xs ys = let r = order_longer 0 (map g xs) (map g ys) in (r.0, ap (in_order f 0) (map-append g xs ys) ∙ r.1)

  pub link_at : {X : Type 0} (g : X → Option ℕ) (xs : List X) (k : ℕ) (x : X) → slice_get xs k ≡ Some x → slice_get (in_order f 0 (map g xs)) k ≡ Some (f k (g x))
  link_at g xs k x e = kept_at (map g xs) k ∙ ap (option_map (f k)) (get_map g xs k x e)

  pub read_link : {X : Type 0} (g : X → Option ℕ) (xs : List X) (k : ℕ) (x : X) (next : Option ℕ) → slice_get xs k ≡ Some x → slice_get (in_order f 0 (map g xs)) k ≡ Some next → f k (g x) ≡ next
  read_link g xs k x next e h = let q : Some (f k (g x)) ≡ Some next = sym (link_at g xs k x e) ∙ h in cc

  -- a number that is none has no link
  pub no_link : {X : Type 0} (g : X → Option ℕ) (xs : List X) (k : ℕ) (next : Option ℕ) → slice_get xs k ≡ None → slice_get (in_order f 0 (map g xs)) k ≡ Some next → ⊥
  no_link g xs k next e h =
      let q : None ≡ Some next = sym (kept_at (map g xs) k ∙ ap (option_map (f k)) (slice_get-map g xs k ∙ ap (option_map g) e)) ∙ h in absurd (cc)

pub ahead_some : (k i : ℕ) → k < i → ahead k (Some i) ≡ Some i
ahead_some k i l = let q : nat_lt k i ≡ true = grind (arith, nat_tests, l) in ap (λ t. if t then Some i else None) q

pub back_some : (k i : ℕ) → i < k → back k (Some i) ≡ Some i
back_some k i l = let q : nat_lt i k ≡ true = grind (arith, nat_tests, l) in ap (λ t. if t then Some i else None) q
