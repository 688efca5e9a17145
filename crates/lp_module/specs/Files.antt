-- The numbers of files by their names.
use Rattle.std.specs.Prelude.{◌≡◌, ℕ, List, Option}
use Rattle.std.specs.Str.{bytes_eq}
use Rattle.std.specs.Map.{lookup}
use Rattle.lp_sig.specs.Places.{first_place}
use Rattle.lp_module.specs.declared.files.Files.{Files}

-- what a table has at a name
unfoldable pub number_of : Files → List ℕ → Option ℕ
number_of f name = lookup (λ k. bytes_eq name k.items) f.numbers.entries

-- the table has each of these names, at its first place, and no other
abbrev pub HasNames : Files → List (List ℕ) → Type 0
HasNames f names = (name : List ℕ) → number_of f name ≡ first_place name names
