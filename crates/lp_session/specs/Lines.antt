-- The lines of a text.
use Rattle.std.specs.Borrow.{Bor}
use Rattle.std.specs.Prelude.{◌≡◌, ℕ, suc, List, [], ◌∷◌, ◌++◌, length, Bool, true, ◌&&◌, ◌||◌, nat_eq, Option, Some, None, ◌⊎◌, if◌then◌else◌}

-- these bytes in front of the first line
abbrev pub in_front : List ℕ → List (List ℕ) → List (List ℕ)
in_front bs [] = []
in_front bs (line ∷ lines) = (bs ++ line) ∷ lines

-- what stands in front of each line feed, and what stands behind the last one
unfoldable pub lines_of : List ℕ → List (List ℕ)
lines_of [] = [] ∷ []
lines_of (b ∷ bs) = if nat_eq b 10 then [] ∷ lines_of bs else in_front (b ∷ []) (lines_of bs)

-- the lines behind a line: none behind the last one
abbrev pub lines_behind : Option (Bor (List ℕ)) → List (List ℕ)
lines_behind None = []
lines_behind (Some text) = lines_of text.now

-- how many bytes are left to be read, the line feed in front of them counted
abbrev pub left : Option (Bor (List ℕ)) → ℕ
left None = 0
left (Some text) = suc (length text.now)

-- space, tab, carriage return
abbrev pub is_blank_byte : ℕ → Bool
is_blank_byte b = (nat_eq b 32 || nat_eq b 9) || nat_eq b 13

unfoldable pub is_blank : List ℕ → Bool
is_blank [] = true
is_blank (b ∷ bs) = is_blank_byte b && is_blank bs

-- whole lines, or nothing
abbrev pub AreWholeLines : List ℕ → Type 0
AreWholeLines text = (text ≡ []) ⊎ ((before : List ℕ) × (text ≡ before ++ 10 ∷ []))
