-- The value of an expression: a closed tree of integers, strings and the operations on them.
use Rattle.std.specs.Prelude.{◌≡◌, ℕ, nat_eq, if◌then◌else◌, Bool, ◌&&◌, ◌||◌, nat_le, List, ◌++◌, length, Option, option_map, ℤ, pos, neg_ℤ, ◌+ℤ◌, ◌-ℤ◌, ◌*ℤ◌, int_le, int_lt, int_div, int_rem}
use Rattle.lp_calculus.specs.Term.{Term, atom, app, constant, integer, text}
use Rattle.lp_calculus.specs.Normal.{IsFormOf, eta_normal}
use Rattle.lp_standard.specs.Numbers as standard
use Rattle.lp_model.specs.declared.ending.Fault.{Fault}
use Rattle.lp_model.specs.declared.ending.Fault.TheVariants.{Overflow, ZeroDivisor, NotClosed}
use Rattle.lp_model.specs.Eigens.{beta_normal}

pub data Value : Type 0 where
  Number : ℤ → Value
  Bytes : List ℕ → Value

pub data Outcome : Type 0 where
  Is : Value → Outcome
  Faults : Fault → Outcome

-- 2 ^ 63
abbrev pub bound : ℕ
bound = 9223372036854775808

-- an integer of 64 bits
abbrev pub number : ℤ → Outcome
number z = if int_le (neg_ℤ (pos bound)) z && int_lt z (pos bound) then Is (Number z) else Faults Overflow

abbrev pub is_zero : ℤ → Bool
is_zero z = int_le (pos 0) z && int_le z (pos 0)

abbrev pub divided : ℤ → ℤ → Outcome
divided a b = if is_zero b then Faults ZeroDivisor else number (int_div a b)

-- the remainder of the least integer by -1 is out of range too, as its quotient is
abbrev pub remainder : ℤ → ℤ → Outcome
remainder a b = if is_zero b then Faults ZeroDivisor else (elim (number (int_div a b)) [ Is v ↦ number (int_rem a b) | Faults f ↦ Faults f ])

-- `+`, `-`, `*`, `div` and `mod`, on integers; `^`, on strings
abbrev pub binary : ℕ → Value → Value → Outcome
binary c (Number a) (Number b) =
    if nat_eq c standard.Add then number (a +ℤ b) else (if nat_eq c standard.Subtract then number (a -ℤ b) else (if nat_eq c standard.Multiply then number (a *ℤ b) else (if nat_eq c standard.Divide then divided a b else (if nat_eq c standard.Remainder then remainder a b else Faults NotClosed))))
binary c (Bytes a) (Bytes b) = if nat_eq c standard.Concatenate then Is (Bytes (a ++ b)) else Faults NotClosed
binary c (Number a) (Bytes b) = Faults NotClosed
binary c (Bytes a) (Number b) = Faults NotClosed

-- `~`, on an integer, and `size`, on a string
abbrev pub unary : ℕ → Value → Outcome
unary c (Number a) = if nat_eq c standard.Negate then number (neg_ℤ a) else Faults NotClosed
unary c (Bytes s) = if nat_eq c standard.Size then number (pos (length s)) else Faults NotClosed

abbrev pub is_binary : ℕ → Bool
is_binary c = nat_le standard.Add c && nat_le c standard.Remainder

-- the first fault, left to right
abbrev pub both : ℕ → Outcome → Outcome → Outcome
both c (Faults f) o = Faults f
both c (Is a) (Faults f) = Faults f
both c (Is a) (Is b) = binary c a b

abbrev pub single : ℕ → Outcome → Outcome
single c (Faults f) = Faults f
single c (Is a) = unary c a

abbrev pub is_two_place : ℕ → Bool
is_two_place c = is_binary c || nat_eq c standard.Concatenate

abbrev pub is_one_place : ℕ → Bool
is_one_place c = nat_eq c standard.Negate || nat_eq c standard.Size

-- the value of a tree
abbrev pub value : Term → Outcome
value (atom (integer z)) = Is (Number z)
value (atom (text s)) = Is (Bytes s)
value (app (app (atom (constant c ts)) a) b) = if is_two_place c then both c (value a) (value b) else Faults NotClosed
value (app (atom (constant c ts)) a) = if is_one_place c then single c (value a) else Faults NotClosed
value t = Faults NotClosed

-- the value of an expression, by its beta-eta normal form; None where more than n steps lead there
abbrev pub evaluate : ℕ → Term → Option Outcome
evaluate n t = option_map (λ s. value (eta_normal s)) (beta_normal n t)

-- the same as a relation, without a bound
pub record HasValue (t : Term) (v : Value) : Type 0 where
  pub form : Term
  pub is_form : IsFormOf t form
  pub is : value form ≡ Is v

abbrev pub term_of : Value → Term
term_of (Number z) = atom (integer z)
term_of (Bytes s) = atom (text s)

-- `<`, `>`, `=<` and `>=`
abbrev pub ordered : ℕ → ℤ → ℤ → Bool
ordered c a b = if nat_eq c standard.Less then int_lt a b else (if nat_eq c standard.Greater then int_lt b a else (if nat_eq c standard.AtMost then int_le a b else int_le b a))
