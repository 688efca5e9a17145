-- Formulas without negation.
use Rattle.std.specs.Prelude.{◌≢◌}
use Rattle.lp_calculus.specs.Term.{Term, Atom, constant, integer, text, eigen, logic, param}
use Rattle.lp_calculus.specs.Fill.{Within}
use Rattle.lp_standard.specs.Numbers as number

-- any atom but the constant `not`
abbrev pub IsUnnegatedAtom : Atom → Type 0
IsUnnegatedAtom (constant c ts) = c ≢ number.Not
IsUnnegatedAtom (integer z) = Unit {0}
IsUnnegatedAtom (text s) = Unit {0}
IsUnnegatedAtom (eigen k) = Unit {0}
IsUnnegatedAtom (logic x l) = Unit {0}
IsUnnegatedAtom (param k T) = Unit {0}

-- a term without loose index and without `not`
abbrev pub IsUnnegated : Term → Type 0
IsUnnegated t = Within IsUnnegatedAtom 0 t
