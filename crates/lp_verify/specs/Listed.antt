-- A register that is set, or none, as a list.
use Rattle.std.specs.Prelude.{ℕ, List, [], ◌∷◌, Option, Some, None}

abbrev pub listed : Option ℕ → List ℕ
listed None = []
listed (Some r) = r ∷ []
