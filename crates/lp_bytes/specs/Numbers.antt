-- Numbers and texts as bytes. The lowest byte of a number stands first; of a number that does not fit its bytes the lowest ones are taken.
use Rattle.std.specs.Prelude.{ℕ, ℤ, List, ◌++◌, length}
use Rattle.std.specs.Int.{w8, w16, w32, w64, to_le_bytes, cast_unsigned}

abbrev pub spelled_one : ℕ → List ℕ
spelled_one n = to_le_bytes w8 n

abbrev pub spelled_two : ℕ → List ℕ
spelled_two n = to_le_bytes w16 n

abbrev pub spelled_four : ℕ → List ℕ
spelled_four n = to_le_bytes w32 n

-- in two's complement
abbrev pub spelled_integer : ℤ → List ℕ
spelled_integer z = to_le_bytes w64 (cast_unsigned w64 z)

-- a text behind its length, which has four bytes
unfoldable pub spelled_long_text : List ℕ → List ℕ
spelled_long_text s = spelled_four (length s) ++ s
