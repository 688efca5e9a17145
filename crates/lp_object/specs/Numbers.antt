-- Numbers, lists of numbers and texts as bytes. Of a number that does not fit its bytes the lowest ones are taken.
use Rattle.std.specs.Prelude.{ℕ, List, ◌++◌, length}
use Rattle.std.specs.List.{flat_map}
use Rattle.lp_bytes.specs.Numbers.{spelled_one, spelled_two, spelled_four}
use Rattle.lp_object.specs.declared.width.Width.{Width}
use Rattle.lp_object.specs.declared.width.Width.TheVariants.{Two, Four}

-- the number of a constant or of a kind, or a count of them
abbrev pub spelled_number : Width → ℕ → List ℕ
spelled_number Two n = spelled_two n
spelled_number Four n = spelled_four n

-- a text behind its length
unfoldable pub spelled_text : List ℕ → List ℕ
spelled_text s = spelled_two (length s) ++ s

-- registers behind a count of one byte
unfoldable pub spelled_few : List ℕ → List ℕ
spelled_few rs = spelled_one (length rs) ++ flat_map spelled_two rs

-- registers behind a count of two bytes
unfoldable pub spelled_many : List ℕ → List ℕ
spelled_many rs = spelled_two (length rs) ++ flat_map spelled_two rs

-- records by number, behind a count of two bytes
unfoldable pub spelled_numbered : List ℕ → List ℕ
spelled_numbered ns = spelled_two (length ns) ++ flat_map spelled_four ns
