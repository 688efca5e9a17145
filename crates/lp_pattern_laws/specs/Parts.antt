-- What a goal that is a pattern term is taken apart into.
use Rattle.std.specs.Prelude.{ℕ, List, map}
use Rattle.lp_calculus.specs.Types.{Ty}
use Rattle.lp_calculus.specs.Term.{atom, eigen, substitute}
use Rattle.lp_standard.specs.Connectives.{Connective}
use Rattle.lp_standard.specs.Connectives as connective
use Rattle.lp_pattern_laws.specs.Patterns.{IsPatternTerm}
use Rattle.lp_pattern_laws.specs.Binders.{Binder, existential}

-- pattern terms; that of a `pi` with this eigenconstant for its variable. Of a `sigma`, whose variable may stand on anything, nothing is said
abbrev pub IsPatternForm : (eigen : ℕ) → Connective → Type 0
IsPatternForm k connective.True = Unit {0}
IsPatternForm k connective.Cut = Unit {0}
IsPatternForm k (connective.And a b) = IsPatternTerm a × IsPatternTerm b
IsPatternForm k (connective.Or a b) = IsPatternTerm a × IsPatternTerm b
IsPatternForm k (connective.Implies c g) = IsPatternTerm c × IsPatternTerm g
IsPatternForm k (connective.ForAll T s) = IsPatternTerm (substitute (atom (eigen k)) s)
IsPatternForm k (connective.Exists T s) = Unit {0}
IsPatternForm k (connective.Not g) = IsPatternTerm g
IsPatternForm k connective.Atomic = Unit {0}

-- the variables of a clause are existential
abbrev pub existentials : List Ty → List Binder
existentials Ts = map (λ T. existential) Ts
