-- Classes of bytes, and runs of one class.
use Rattle.std.specs.Prelude.{ℕ, suc, List, [], ◌∷◌, Bool, true, false, not, ◌&&◌, ◌||◌, nat_eq, nat_le, codes, if◌then◌else◌}
use Rattle.lp_lexer.specs.declared.class.Class.{Class}
use Rattle.lp_lexer.specs.declared.class.Class.TheVariants.{Blank, Lower, Upper, Digit, Word, Symbol, Alone, Escaped, Line, Inside}

abbrev pub is_one_of : List ℕ → ℕ → Bool
is_one_of [] b = false
is_one_of (x ∷ xs) b = if nat_eq x b then true else is_one_of xs b

abbrev pub between : ℕ → ℕ → ℕ → Bool
between low high b = nat_le low b && nat_le b high

unfoldable pub is_in : Class → ℕ → Bool
-- space, tab, line feed, carriage return
is_in Blank b = is_one_of (32 ∷ 9 ∷ 10 ∷ 13 ∷ []) b
is_in Lower b = between 97 122 b
-- a letter or _
is_in Upper b = between 65 90 b || nat_eq b 95
is_in Digit b = between 48 57 b
-- what a name goes on with: a letter, _, a digit, ' or ?
is_in Word b = between 97 122 b || between 65 90 b || nat_eq b 95 || between 48 57 b || nat_eq b 39 || nat_eq b 63
is_in Symbol b = is_one_of (codes "+-*/^<>=~@#$&:") b
is_in Alone b = is_one_of (codes ",;!") b
-- what may follow a \ in a string: \ " n t
is_in Escaped b = is_one_of (92 ∷ 34 ∷ 110 ∷ 116 ∷ []) b
-- all but a line feed
is_in Line b = not (nat_eq b 10)
-- what stands for itself in a string
is_in Inside b = between 32 126 b || nat_eq b 9 || nat_eq b 13

-- how many bytes at the front are of the class
abbrev pub run : Class → List ℕ → ℕ
run class [] = 0
run class (b ∷ bs) = if is_in class b then suc (run class bs) else 0
