-- Variables by the numbers of their records: a term has those of its own record and of earlier ones.
use Rattle.std.specs.Prelude.{◌<◌, ℕ, List, [], ◌∷◌, Option, unwrap_or, slice_get}
use Rattle.lp_calculus.specs.Term.{Term, index, atom, abs, app, logic, constant, integer, text, eigen, param}
use Rattle.lp_code.specs.Symbolic.{Built, held}
use Rattle.lp_code.specs.States.{Captured}
use Rattle.lp_code.specs.Denote.{captured_of}
use Rattle.lp_verify.specs.inner.Made.{nothing_built}

-- the variables in a term are of records below one
abbrev pub IsLow : (number : ℕ) → Term → Type 0
IsLow n (index i) = Unit {0}
IsLow n (atom (logic r k)) = k < n
IsLow n (atom (constant c ts)) = Unit {0}
IsLow n (atom (integer z)) = Unit {0}
IsLow n (atom (text s)) = Unit {0}
IsLow n (atom (eigen k)) = Unit {0}
IsLow n (atom (param k T)) = Unit {0}
IsLow n (abs b) = IsLow n b
IsLow n (app t u) = IsLow n t × IsLow n u

-- what stands in registers, on each level
abbrev pub HoldsLow : (number : ℕ) → List (Option Built) → Type 0
HoldsLow n xs = (r : ℕ) → IsLow n (unwrap_or (held xs r) nothing_built).term

abbrev pub AllHoldLow : (number : ℕ) → List (List (Option Built)) → Type 0
AllHoldLow n [] = Unit {0}
AllHoldLow n (xs ∷ xss) = HoldsLow n xs × AllHoldLow n xss

-- what is handed to a record
abbrev pub AreLowTerms : (number : ℕ) → List Built → Type 0
AreLowTerms n bs = (r : ℕ) → IsLow n (unwrap_or (slice_get bs r) nothing_built).term

abbrev pub HandedLow : List (ℕ × Captured) → Type 0
HandedLow handed = (n : ℕ) → AreLowTerms n (captured_of handed n).terms
