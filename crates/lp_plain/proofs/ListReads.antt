-- What stands at a number of a list, from what the code has read.
use Rattle.std.proofs.Common.{◌≡◌, ℕ, ◌<◌, ◌≤◌, List, [], ◌∷◌, length, get_or, Some, refl, sym, ap, ◌∙◌, subst, arith}
use Rattle.std.specs.Prelude.{slice_get}
use Rattle.std.proofs.lemmas.Option.{slice_get-get_or}

pub read_at : {X : Type 0} (xs ys : List X) (i : ℕ) (x d : X) → ys ≡ xs → i < length ys → x ≡ get_or ys i d → slice_get xs i ≡ Some x
read_at xs ys i x d e l r = subst (λ z. slice_get z i ≡ Some x) e (slice_get-get_or ys i d l ∙ ap (λ z. Some z) (sym r))

pub none_left : {X : Type 0} (xs : List X) → length xs ≤ 0 → xs ≡ []
none_left [] h = refl
none_left (x ∷ xs) h = absurd (omega arith)
