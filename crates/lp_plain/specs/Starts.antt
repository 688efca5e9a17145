-- What a search begins with: the flattened clauses of the program in its table, and the branch of the query.
use Rattle.std.specs.Prelude.{◌≡◌, ℕ, suc, ◌-◌, ◌<◌, List, [], ◌∷◌, All, length, Option, None, Some}
use Rattle.lp_calculus.specs.Term.{Term, atom, logic}
use Rattle.lp_calculus.specs.Typing.{Scheme}
use Rattle.lp_term.specs.Nodes.{Nodes}
use Rattle.lp_model.specs.declared.program.ClauseFormula.{ClauseFormula}
use Rattle.lp_model.specs.Branch.{Task, Go, nothing_written}
use Rattle.lp_model.specs.Flat.{Clauses}
use Rattle.lp_model.specs.Flatten.{flatten}
use Rattle.lp_model.specs.Readings.{formula_of}
use Rattle.lp_plain.specs.declared.frame.Place.{Place}
use Rattle.lp_plain.specs.declared.machine.Machine.{Machine}
use Rattle.lp_plain.specs.declared.table.Span.{Span}
use Rattle.lp_plain.specs.declared.table.Table.{Table}
use Rattle.lp_plain.specs.Entries.{Around, IsBranchAt}
use Rattle.lp_plain.specs.Tables.{AreClausesOf}

-- the formulas stand in the bank
abbrev pub AreFormulasIn : Nodes → List ClauseFormula → Type 0
AreFormulasIn b fs = All (λ f. f.formula.0 < length b.terms) fs

-- the flattened clauses of each formula, each with enough steps
abbrev pub AreFlat : (ℕ → Option Scheme) → Nodes → List ClauseFormula → List Clauses → Type 0
AreFlat d b [] [] = Unit {0}
AreFlat d b [] (cs ∷ css) = ⊥
AreFlat d b (f ∷ fs) [] = ⊥
AreFlat d b (f ∷ fs) (cs ∷ css) = ((n : ℕ) × (flatten n d (formula_of b f) ≡ Some cs)) × AreFlat d b fs css

-- the clauses of these numbers are these, formula by formula
abbrev pub AreProgramOf : Nodes → Table → List Span → List Clauses → Type 0
AreProgramOf b t [] [] = Unit {0}
AreProgramOf b t [] (cs ∷ css) = ⊥
AreProgramOf b t (s ∷ ss) [] = ⊥
AreProgramOf b t (s ∷ ss) (cs ∷ css) = AreClausesOf b t s cs × AreProgramOf b t ss css

-- outside of all goals no clause is assumed and nothing is written, and a cut keeps no alternative
pub record IsOutermost (a : Around) : Type 0 where
  pub assumed : a.assumed None ≡ []
  pub written : a.written None ≡ nothing_written
  pub mark : a.mark 0 ≡ 0

-- the place of the query's goals. A query keeps its type variables
pub record IsOutside (p : Place) : Type 0 where
  pub types : p.values.types.count ≡ 0
  pub assumed : p.assumed ≡ None
  pub standing : p.standing ≡ None
  pub level : p.level ≡ 0
  pub mark : p.mark ≡ 0

-- what a query's indices stand for: its k variables, the first of them the outermost index
abbrev pub query_values : (k : ℕ) → ℕ → Term
query_values k i = atom (logic (k - suc i) 0)

-- the branch at work is the one task that there is
abbrev pub IsAlone : Machine → Around → List Task → Type 0
IsAlone m a (Go b ∷ []) = IsBranchAt m a b × (m.choices.items ≡ [])
IsAlone m a ts = ⊥
