-- A file by its name.
use Rattle.std.specs.Prelude.{◌≡◌, ℕ, List, string_bytes}
use Rattle.lp_sig.specs.Refusals.{IsAt}
use Rattle.lp_build.specs.declared.sources.File.{File}

-- the file of a number has this name
abbrev pub IsFileNamed : List File → (number : ℕ) → (name : List ℕ) → Type 0
IsFileNamed files number name = (f : File) × IsAt files number f × (string_bytes f.name ≡ name)

-- so has it this name, and these bytes
abbrev pub IsFileAt : List File → (number : ℕ) → (name bytes : List ℕ) → Type 0
IsFileAt files number name bytes = (f : File) × IsAt files number f × (string_bytes f.name ≡ name) × (f.text.bytes.items ≡ bytes)
