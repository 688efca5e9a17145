-- The headline: what is written of a query is right, in the definitions of the language alone.
use Rattle.std.specs.Prelude.{◌≡◌, ℕ, List, ◌++◌, map}
use Rattle.lp_lemmas.specs.Each.{AnyOf, EachOf}
use Rattle.lp_model.specs.Answers.{Instance, IsClosedInstance, IsInstance, IsWellFormed, Query, TypedAnswer}
use Rattle.lp_model.specs.Flatten.{ClauseFormula}
use Rattle.lp_model.specs.Proofs.{Declared, Leaves}
use Rattle.lp_model.specs.Shown.{Entry}
use Rattle.lp_model.specs.declared.ending.Ending.TheVariants.{NoMore}
use Rattle.lp_search_laws.specs.Started.{IsProvableBy}
use Rattle.lp_lines.specs.Lines.{ending_line}
use Rattle.lp_solve.specs.Written.{AreLines}

-- The lines are those of answers that are well formed by some typing, and each closed instance of an answer, by values that solve the pairs that are written with it, has a uniform
-- proof from the clauses F; and where the last line is `no more answers`, each instance of the query that has such a proof is, up to conversion, an instance of an answer that is
-- written. The leaves of these proofs are for negated goals.
pub record IsTrue (L : Leaves) (d : Declared) (F : List ClauseFormula) (q : Query) (es : List Entry) (ns : List (List ℕ)) (text : List ℕ) : Type 0 where
  pub answers : List TypedAnswer
  pub lines : List ℕ
  pub last : List ℕ
  pub wrote : text ≡ lines ++ last
  pub are_lines : AreLines es ns 1 (map (λ a. a.answer) answers) lines
  pub well_formed : EachOf (λ a. IsWellFormed d q a.typing a.answer) answers
  pub sound : EachOf (λ a. (i : Instance) → IsClosedInstance d a.typing a.answer i → IsProvableBy L d F q i) answers
  pub exhausts : (reports : List ℕ) → last ≡ ending_line NoMore ++ reports → (i : Instance) → IsProvableBy L d F q i → AnyOf (λ a. IsInstance d a.typing a.answer i) answers
