-- Clauses of a program as texts have them: constants with as many types as they take, no parameter and no logic variable.
use Rattle.std.specs.Prelude.{ℕ, Option, Some, None}
use Rattle.lp_calculus.specs.Term.{Atom, constant, integer, text, eigen, logic, param}
use Rattle.lp_calculus.specs.Typing.{Scheme}
use Rattle.lp_model.specs.Proofs.{Declared}

-- how many types a declared constant takes
abbrev pub count_of : Option Scheme → ℕ
count_of None = 0
count_of (Some s) = s.count

abbrev pub arity_in : Declared → ℕ → ℕ
arity_in d c = count_of (d c)

-- neither a parameter of a proof nor a logic variable
abbrev pub IsNamedAtom : Atom → Type 0
IsNamedAtom (constant c ts) = Unit {0}
IsNamedAtom (integer z) = Unit {0}
IsNamedAtom (text s) = Unit {0}
IsNamedAtom (eigen k) = Unit {0}
IsNamedAtom (logic x l) = ⊥
IsNamedAtom (param k T) = ⊥
