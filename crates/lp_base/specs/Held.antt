-- What a folder holds, and how a write changes it.
use Rattle.std.specs.Prelude.{◌≡◌, ℕ, List, Option, Some, false, if◌then◌else◌}
use Rattle.std.specs.Str.{bytes_eq}

-- the bytes that stand under each name, or none
abbrev pub Held : Type 0
Held = List ℕ → Option (List ℕ)

-- under this name these bytes, and under each other name what was there
abbrev pub Puts : List ℕ → List ℕ → Held → Held → Type 0
Puts name bytes old new = (other : List ℕ) → new other ≡ (if bytes_eq name other then Some bytes else old other)

-- under each other name than this one what was there
abbrev pub Spares : List ℕ → Held → Held → Type 0
Spares name old new = (other : List ℕ) → bytes_eq name other ≡ false → new other ≡ old other
