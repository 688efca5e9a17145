-- Positive terms: what may stand for a variable, and in an argument of an atom.
use Rattle.std.specs.Prelude.{◌≡◌, ℕ, nat_eq, Bool, true, ◌&&◌, ◌||◌, not, List, [], ◌∷◌}
use Rattle.lp_calculus.specs.Term.{Term, Atom, index, atom, abs, app, constant, integer, text, eigen, logic, param}
use Rattle.lp_calculus.specs.Closed.{AllAtoms}
use Rattle.lp_standard.specs.Numbers as number

-- neither `=>`, `:-`, `!` nor `not`
abbrev pub is_positive_constant : ℕ → Bool
is_positive_constant c = not (nat_eq c number.Implies || nat_eq c number.If || nat_eq c number.Cut || nat_eq c number.Not)

-- no other constant stands in the term
abbrev pub is_positive : Term → Bool
is_positive (index i) = true
is_positive (atom (constant c ts)) = is_positive_constant c
is_positive (atom (integer z)) = true
is_positive (atom (text s)) = true
is_positive (atom (eigen k)) = true
is_positive (atom (logic x l)) = true
is_positive (atom (param k t)) = true
is_positive (abs b) = is_positive b
is_positive (app t u) = is_positive t && is_positive u

abbrev pub are_positive : List Term → Bool
are_positive [] = true
are_positive (t ∷ ts) = is_positive t && are_positive ts

-- the same, atom by atom
abbrev pub IsPositiveConstant : ℕ → Type 0
IsPositiveConstant c = is_positive_constant c ≡ true

abbrev pub IsPositiveAtom : Atom → Type 0
IsPositiveAtom (constant c ts) = IsPositiveConstant c
IsPositiveAtom (integer z) = Unit {0}
IsPositiveAtom (text s) = Unit {0}
IsPositiveAtom (eigen k) = Unit {0}
IsPositiveAtom (logic x l) = Unit {0}
IsPositiveAtom (param k t) = Unit {0}

abbrev pub IsPositive : Term → Type 0
IsPositive t = AllAtoms IsPositiveAtom t
