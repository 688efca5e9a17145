-- A list of named files as what stands under each name.
use Rattle.std.specs.Global.{Global}
use Rattle.std.specs.Prelude.{◌≡◌, ◌≢◌, ◌<◌, ℕ, zero, suc, List, [], ◌∷◌, Option, Some, None, String, Vec, string_bytes, if◌then◌else◌}
use Rattle.std.specs.Str.{bytes_eq}

-- a file's name and its bytes
abbrev pub File : Type 0
File = String Global × Vec ℕ Global

-- the bytes of the first file of that name
abbrev pub found : List File → List ℕ → Option (List ℕ)
found [] name = None
found (file ∷ files) name = if bytes_eq (string_bytes file.0) name then Some file.1.items else found files name

-- the name of the file at a place
abbrev pub name_at : List File → ℕ → List ℕ
name_at [] n = []
name_at (file ∷ files) zero = string_bytes file.0
name_at (file ∷ files) (suc n) = name_at files n

-- the first file of that name stands at that place
pub record IsFirst (files : List File) (name : List ℕ) (i : ℕ) : Type 0 where
  pub at : name_at files i ≡ name
  pub before : (k : ℕ) → k < i → name_at files k ≢ name
