-- What the clause `q a.` of the profile's worked image takes, and the query `q a`, with the constants by their numbers there.
use Rattle.std.specs.Prelude.{◌≡◌, ℕ, List, []}
use Rattle.lp_calculus.specs.Types.{Ty}
use Rattle.lp_calculus.specs.Term.{Term, atom, app, constant}
use Rattle.lp_model.specs.Flat.{Atomic, clause, goals, no_goals}
use Rattle.lp_gen.specs.Registers.{plain_code, clause_takes, query_takes, nothing_around, SomeOfClause, SomeOfQuery}

abbrev pub worked_atom : Term
worked_atom = app (atom (constant 33 [])) (atom (constant 32 []))

-- GET_CONST, NECK and PROCEED are seven bytes without registers; of the query NECK, PUT_CONST, CALL and PROCEED are fifteen, with one register. Neither has a record that passes its limits.
pub record AreWorked (constants : ℕ → List Ty → Ty) : Type 0 where
  pub fact : clause_takes constants 0 nothing_around [] worked_atom no_goals ≡ plain_code 7 0
  pub query : query_takes constants 0 [] (goals (Atomic worked_atom) no_goals) ≡ record { types = 0; terms = 1; bytes = 15; misfits = 0 }
  pub fact_within : SomeOfClause constants (clause 0 [] worked_atom no_goals) → ⊥
  pub query_within : SomeOfQuery constants 0 [] (goals (Atomic worked_atom) no_goals) → ⊥
