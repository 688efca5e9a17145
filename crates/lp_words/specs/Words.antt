-- What the words after the program's name are made of.
use Rattle.std.specs.Prelude.{ℕ, List, [], ◌∷◌, length, codes, Bool, true, false, ◌&&◌, ◌||◌, nat_eq, nat_le, nat_lt, slice_index, Option, Some, None, if◌then◌else◌}
use Rattle.std.specs.List.{list_all}
use Rattle.std.specs.Option.{option_and_then}
use Rattle.std.specs.Str.{bytes_eq}
use Rattle.std.specs.Str.Parse.{digits_value}

abbrev pub is_letter : ℕ → Bool
is_letter b = (nat_le 65 b && nat_le b 90) || (nat_le 97 b && nat_le b 122)

-- a letter, a digit or an underscore
abbrev pub is_word_byte : ℕ → Bool
is_word_byte b = is_letter b || (nat_le 48 b && nat_le b 57) || nat_eq b 95

-- a module's name: letters, digits and underscores, at most 64, a letter in front
unfoldable pub is_module_name : List ℕ → Bool
is_module_name name = is_letter (slice_index name 0) && (list_all is_word_byte name && nat_le (length name) 64)

-- a `-` stands alone before a `--`
unfoldable pub has_lone_dash : List (List ℕ) → Bool
has_lone_dash [] = false
has_lone_dash (w ∷ ws) = if bytes_eq w (codes "--") then false else (if bytes_eq w (codes "-") then true else has_lone_dash ws)

abbrev pub is_digit : ℕ → Bool
is_digit b = nat_le 48 b && nat_le b 57

-- the number that 1 to 9 digits write
unfoldable pub number_of : List ℕ → Option ℕ
number_of text = if (nat_le 1 (length text) && nat_le (length text) 9) && list_all is_digit text then Some (digits_value 10 text) else None

-- the same, where it is in a range
unfoldable pub number_between : (least most : ℕ) → List ℕ → Option ℕ
number_between least most text = option_and_then (λ n. if nat_lt n least || nat_lt most n then None else Some n) (number_of text)
