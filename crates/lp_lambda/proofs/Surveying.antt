-- The first text that fails, from those before it.
use Rattle.std.proofs.Common.{◌≡◌, ℕ, suc, ◌+◌, ◌<◌, List, [], ◌∷◌, ◌++◌, length, map, take, drop, sym, ap, ◌∙◌, subst, arith, Some}
use Rattle.std.specs.Prelude.{All, slice_get}
use Rattle.std.proofs.lemmas.List.{append_assoc, take-append-drop, length-take-le, map-append, length-map}
use Rattle.std.proofs.lemmas.List.Elements.{All-push}
use Rattle.lp_lemmas.proofs.Lists.{take_suc}
use Rattle.lp_calculus.specs.Term.{Term}
use Rattle.lp_lambda.specs.Pattern.{IsPatternClause}
use Rattle.lp_lambda.specs.First.{ArePatternClauses, IsFirstClause, IsFirstIn}

module _ {X Y : Type 0} (f : X → Y) (xs : List X) (i : ℕ) (x : X) (g : slice_get xs i ≡ Some x) where
  abbrev before : List Y
  before = map f (take i xs)

  pub taken_more : (P : Y → Type 0) → All P before → P (f x) → All P (map f (take (i + 1) xs))
  taken_more P a h =
      let n : i + 1 ≡ suc i = omega arith in
      subst (λ k. All P (map f (take k xs))) (sym n)
      (subst (λ z. All P (map f z)) (sym (take_suc xs i x g)) (subst (All P) (sym (map-append f (take i xs) (x ∷ []))) (All-push P before (f x) a h)))

  apart : xs ≡ take i xs ++ x ∷ drop (suc i) xs
  apart = sym (take-append-drop (suc i) xs) ∙ ap (λ z. z ++ drop (suc i) xs) (take_suc xs i x g) ∙ append_assoc (take i xs) (x ∷ []) (drop (suc i) xs)

  pub apart_at : map f xs ≡ before ++ f x ∷ map f (drop (suc i) xs)
  apart_at = ap (map f) apart ∙ map-append f (take i xs) (x ∷ drop (suc i) xs)

  pub before_long : i < length xs → length before ≡ i
  before_long h = length-map (take i xs) f ∙ length-take-le i xs (omega arith)

pub first_clause_at : {X : Type 0} (f : X → Term) (xs : List X) (i n : ℕ) (x : X) → slice_get xs i ≡ Some x → i < length xs → n ≡ i + 1 → ArePatternClauses (map f (take i xs)) → (IsPatternClause (f x) → ⊥) → IsFirstClause (map f xs) n
first_clause_at f xs i n x g h e a k =
    let l = before_long f xs i x g h in
    (map f (take i xs), f x, map f (drop (suc i) xs), apart_at f xs i x g, omega (arith, e, l), a, k)

pub first_module_at : {X : Type 0} (f : X → List Term) (xs : List X) (i m n : ℕ) (x : X) → slice_get xs i ≡ Some x → i < length xs → m ≡ i → All ArePatternClauses (map f (take i xs)) → IsFirstClause (f x) n → IsFirstIn (map f xs) m n
first_module_at f xs i m n x g h e a k =
    let l = before_long f xs i x g h in
    (map f (take i xs), f x, map f (drop (suc i) xs), apart_at f xs i x g, omega (arith, e, l), a, k)
