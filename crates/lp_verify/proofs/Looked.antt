-- What a look at a list gives.
use Rattle.std.proofs.Common.{◌≡◌, ◌∙◌, ℕ, List, Option, Some, None, ap, sym, Bor}
use Rattle.std.specs.Prelude.{slice_get, option_copied}
use Rattle.std.specs.Slice.{IsItemAt}
use Rattle.std.proofs.lemmas.Option.{slice_get-get_or, slice_get_past}

pub copied_at : {X : Type 0} (xs : List X) (i : ℕ) (r : Option (Bor X)) → IsItemAt xs i r → option_copied r ≡ slice_get xs i
copied_at xs i None h = sym (slice_get_past xs i h.3)
copied_at xs i (Some x) h = sym (slice_get-get_or xs i x.now h.3.0 ∙ ap (λ y. Some y) (sym h.1))
