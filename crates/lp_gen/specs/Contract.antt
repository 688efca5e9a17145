-- What the code of clauses and of a query denotes: over the declared constants, and over each table of kinds in which the declared types have their kinds and
-- over which they are well typed, these clauses, or this query.
use Rattle.std.specs.Prelude.{◌≡◌, ℕ, List, map, reverse, All, Option, Some}
use Rattle.lp_term.specs.Nodes.{Nodes, type_tree}
use Rattle.lp_model.specs.declared.program.Declared.{Declared}
use Rattle.lp_model.specs.declared.program.Typed as program
use Rattle.lp_model.specs.declared.clause.Goal as code_goal
use Rattle.lp_model.specs.declared.clause.Clause as code_clause
use Rattle.lp_model.specs.Flattened.{clause_of, goals_of}
use Rattle.lp_model.specs.Readings.{declared_by}
use Rattle.lp_code.specs.declared.record.Record.{Record}
use Rattle.lp_code.specs.Symbolic.{Tables}
use Rattle.lp_code.specs.Denote.{denote, denote_query}
use Rattle.lp_gen.specs.declared.fault.GenRefusal.{GenRefusal}
use Rattle.lp_gen.specs.Sources.{AreKnownSchemes, IsClause, IsQuery}
use Rattle.lp_gen.specs.Limits.{IsOfCode, HaveFewTypes}

abbrev pub tables_of : Nodes → List Declared → (kinds : ℕ → Option ℕ) → Tables
tables_of b ds κ = record { kinds = κ; constants = declared_by b ds }

abbrev pub DenotesClauses : Nodes → List Declared → List code_clause.Clause → List Record → Type 0
DenotesClauses b ds cs rs =
    (κ : ℕ → Option ℕ) → AreKnownSchemes (tables_of b ds κ) → All (IsClause (tables_of b ds κ)) (map (clause_of b) cs) → denote (tables_of b ds κ) rs ≡ Some (map (clause_of b) cs)

abbrev pub DenotesQuery : Nodes → List Declared → program.Typed → List code_goal.Goal → List Record → Type 0
DenotesQuery b ds q gs rs =
    (κ : ℕ → Option ℕ) → AreKnownSchemes (tables_of b ds κ) → IsQuery (tables_of b ds κ) q.type_vars
    (reverse (map (λ v. type_tree b v.1.0) q.vars.items)) (goals_of b gs) →
    denote_query (tables_of b ds κ) rs ≡ Some (record { type_vars = q.type_vars; vars = map (λ v. type_tree b v.1.0) q.vars.items; body = goals_of b gs })

-- A refusal of clauses, or of a query, of which there is code over some kinds, where constants have at most 255 type variables: no limit but those of code is told.

abbrev pub ReadyClauses : Nodes → List Declared → List code_clause.Clause → GenRefusal → Type 0
ReadyClauses b ds cs e = (κ : ℕ → Option ℕ) → HaveFewTypes (declared_by b ds) → All (IsClause (tables_of b ds κ)) (map (clause_of b) cs) → IsOfCode e

abbrev pub ReadyQuery : Nodes → List Declared → program.Typed → List code_goal.Goal → GenRefusal → Type 0
ReadyQuery b ds q gs e =
    (κ : ℕ → Option ℕ) → HaveFewTypes (declared_by b ds) → IsQuery (tables_of b ds κ) q.type_vars (reverse (map (λ v. type_tree b v.1.0) q.vars.items)) (goals_of b gs) → IsOfCode e
