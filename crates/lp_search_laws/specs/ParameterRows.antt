-- A program in which a type stands in the types of parameters alone: a negated goal over it is open, as its search could bind the type variable though the goal has no proof at other types.
use Rattle.lp_calculus.specs.Term.{Term, app, atom, param}
use Rattle.lp_calculus.specs.Types.{Ty, arrow}
use Rattle.lp_calculus.specs.Typing.{Scheme, o_type}
use Rattle.lp_model.specs.Branch.{Answer}
use Rattle.lp_model.specs.Flatten.{ClauseFormula}
use Rattle.lp_model.specs.Skeleton.{Told}
use Rattle.lp_search_laws.specs.Worked.{declares, fact, kind, on, plain_type, told}
use Rattle.std.specs.Prelude.{List, Option, [], ℕ, ◌∷◌}

abbrev pub i : Ty
i = kind 8

-- a term of type i in which T stands in the types of parameters alone
abbrev pub by : Ty → Term
by T = app (atom (param 0 (arrow T i))) (atom (param 1 T))

-- r 32
abbrev pub declared : ℕ → Option Scheme
declared = declares (plain_type (arrow i o_type) ∷ [])

abbrev pub rules : List ClauseFormula
rules = fact (on 32 (by (kind 9))) ∷ []

abbrev pub asked_over : (type_vars : ℕ) → Term → Told Answer
asked_over j t = told declared rules j 0 t 1000 100
