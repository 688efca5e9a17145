-- Pairs for each rule of plain unification, and what a run comes to.
use Rattle.std.specs.Prelude.{ℕ, List, [], ◌∷◌, Option, option_map}
use Rattle.lp_calculus.specs.Types.{Ty, con, no_types}
use Rattle.lp_calculus.specs.Term.{Term, atom, apply, constant, eigen, logic}
use Rattle.lp_calculus.specs.Fill.{put_all}
use Rattle.lp_model.specs.Pair.{Pair, put_types_in}
use Rattle.lp_model.specs.Unify.{Unified, Fail, Solution, Spent, solve}

pub data Outcome : Type 0 where
  refused : Outcome
  -- the value of variable 0, and the pairs that are left
  found : (value : Term) → (left : List Pair) → Outcome
  too_many_units : Outcome

abbrev pub outcome_of : Unified → Outcome
outcome_of Fail = refused
outcome_of Spent = too_many_units
outcome_of (Solution s) = found (put_types_in s.types (put_all s.bindings (atom (logic 0 0)))) s.delayed

-- the variables of the pairs are below 10
abbrev pub within : (limit : ℕ) → List Pair → Option Outcome
within limit ps = option_map outcome_of (solve 40 limit [] ps [] 10)

abbrev pub run : List Pair → Option Outcome
run ps = within 1000 ps

abbrev pub pair : (left right : Term) → (level : ℕ) → Pair
pair t u level = record { left = t; right = u; level = level }

-- constants
abbrev pub a : Term
a = atom (constant 33 [])

abbrev pub b : Term
b = atom (constant 34 [])

abbrev pub f : List Term → Term
f ts = apply (atom (constant 32 [])) ts

-- a constant at one type
abbrev pub at : Ty → Term
at T = atom (constant 40 (T ∷ []))

abbrev pub kind : ℕ → Ty
kind n = con n no_types

-- variables of level 0 on arguments, the first new one among them
abbrev pub X : List Term → Term
X ts = apply (atom (logic 0 0)) ts

abbrev pub Y : List Term → Term
Y ts = apply (atom (logic 1 0)) ts

abbrev pub new : List Term → Term
new ts = apply (atom (logic 10 0)) ts

-- a variable of level 1
abbrev pub young : Term
young = atom (logic 1 1)

-- the eigenconstants of levels 1 to 3
abbrev pub u : Term
u = atom (eigen 1)

abbrev pub v : Term
v = atom (eigen 2)

abbrev pub w : Term
w = atom (eigen 3)
