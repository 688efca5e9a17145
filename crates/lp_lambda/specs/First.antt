-- The first text of a set of modules and a query that is no pattern text: the clauses module by module, then the query.
use Rattle.std.specs.Prelude.{◌≡◌, ℕ, suc, List, ◌∷◌, ◌++◌, length, map, All}
use Rattle.lp_calculus.specs.Term.{Term}
use Rattle.lp_term.specs.Nodes.{Nodes, tree}
use Rattle.lp_model.specs.declared.program.ClauseFormula.{ClauseFormula}
use Rattle.lp_module.specs.declared.module.Module.{Module}
use Rattle.lp_lambda.specs.Pattern.{IsPatternClause, IsPatternQuery}
use Rattle.lp_lambda.specs.declared.first.Verdict.{Verdict}
use Rattle.lp_lambda.specs.declared.first.Verdict.TheVariants.{Yes, Clause, Query}

-- the formulas of clauses of a bank
abbrev pub terms_of : Nodes → List ClauseFormula → List Term
terms_of b cs = map (λ c. tree b c.formula.0) cs

-- the clause formulas of a module
abbrev pub formulas_of : Module → List Term
formulas_of m = terms_of m.bank m.clauses.items

abbrev pub ArePatternClauses : List Term → Type 0
ArePatternClauses ts = All IsPatternClause ts

-- the formula of this number, counted from 1, is the first that is no pattern text
abbrev pub IsFirstClause : List Term → (number : ℕ) → Type 0
IsFirstClause ts n = (before : List Term) × (t : Term) × (behind : List Term) × (ts ≡ before ++ t ∷ behind) × (n ≡ suc (length before)) × ArePatternClauses before × (IsPatternClause t → ⊥)

-- it is a formula of the module at this place, counted from 0
abbrev pub IsFirstIn : List (List Term) → (place number : ℕ) → Type 0
IsFirstIn ms m n = (before : List (List Term)) × (ts : List Term) × (behind : List (List Term)) × (ms ≡ before ++ ts ∷ behind) × (m ≡ length before) × All ArePatternClauses before × IsFirstClause ts n

-- the verdict on the formulas of modules and that of a query
abbrev pub IsVerdict : List (List Term) → Term → Verdict → Type 0
IsVerdict ms q Yes = All ArePatternClauses ms × IsPatternQuery q
IsVerdict ms q (Clause m n) = IsFirstIn ms m n
IsVerdict ms q Query = All ArePatternClauses ms × (IsPatternQuery q → ⊥)
