-- Answers of a read.
use Rattle.std.specs.Prelude.{◌≡◌, ◌<◌, ℕ, List, length, Option, Some, Result, Err}
use Rattle.lp_base.specs.declared.outside.ReadErr.{ReadErr}
use Rattle.lp_base.specs.declared.outside.ReadErr.TheVariants.{TooLong}

-- where the answer is that the file is too long: of the length that it gives
abbrev pub IfTooLong : {T : Type 0} → Result T ReadErr → (ℕ → Type 0) → Type 0
IfTooLong (Err (TooLong n)) P = P n
IfTooLong _ P = Unit {0}

-- the answer is that the file is too long
abbrev pub IsTooLong : {T : Type 0} → Result T ReadErr → Type 0
IsTooLong (Err (TooLong n)) = Unit {0}
IsTooLong _ = ⊥

-- there are more bytes than the limit
abbrev pub IsLonger : Option (List ℕ) → ℕ → Type 0
IsLonger held limit = (bytes : List ℕ) × (held ≡ Some bytes) × (limit < length bytes)
