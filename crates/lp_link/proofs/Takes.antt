-- What holds of each element so far.
use Rattle.std.proofs.Common.{ℕ, ◌+◌, ◌<◌, ◌≤◌, List, [], ◌∷◌, length, take, get_or, sym, subst}
use Rattle.std.specs.Prelude.{All}
use Rattle.std.proofs.lemmas.List.{take_more, take_all}
use Rattle.std.proofs.lemmas.List.Elements.{All-nil, All-cons, All-append}

module _ {A : Type 0} (P : A → Type 0) (xs : List A) (i : ℕ) where
  pub all_at : (x : A) → i < length xs → P (get_or xs i x) → All P (take i xs) → All P (take (i + 1) xs)
  all_at x h p all = subst (All P) (sym (take_more xs i x h)) (All-append P (take i xs) (get_or xs i x ∷ []) all (All-cons P (get_or xs i x) [] p (All-nil P)))

  pub all_done : length xs ≤ i → All P (take i xs) → All P xs
  all_done h all = subst (All P) (take_all i xs h) all
