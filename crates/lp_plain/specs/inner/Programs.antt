-- A program on the way into the table, formula by formula.
use Rattle.std.specs.Prelude.{ℕ, ◌≤◌, List, take, All, length, Option}
use Rattle.lp_calculus.specs.Typing.{Scheme}
use Rattle.lp_term.specs.Nodes.{Nodes, Extends}
use Rattle.lp_model.specs.declared.program.ClauseFormula.{ClauseFormula}
use Rattle.lp_model.specs.Flat.{Clauses}
use Rattle.lp_plain.specs.declared.table.Span.{Span}
use Rattle.lp_plain.specs.declared.table.Table.{Table}
use Rattle.lp_plain.specs.Candidates.{AreInOrder}
use Rattle.lp_plain.specs.Starts.{AreFormulasIn, AreFlat, AreProgramOf}
use Rattle.lp_plain.specs.Within.{IsTableIn}

-- the first k formulas are in the table
pub record ArePut (fs : List ClauseFormula) (b c : Nodes) (t u : Table) (spans : List Span) (k : ℕ) : Type 0 where
  pub kept : Extends b c
  pub order : AreInOrder 0 spans
  pub ends : All (λ s. s.to ≤ length u.rules.items) spans
  pub within : IsTableIn (length b.terms) t → IsTableIn (length c.terms) u
  pub spans_are : IsTableIn (length b.terms) t → AreFormulasIn b fs → (d : ℕ → Option Scheme) (css : List Clauses) → AreFlat d b (take k fs) css → AreProgramOf c u spans css
