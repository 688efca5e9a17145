-- What a search over Horn clauses says of a query: soundness and exhaustion.
use Rattle.std.specs.Prelude.{◌≡◌, ℕ, List, [], map, length, Some, slice_get}
use Rattle.lp_calculus.specs.Types.{Ty}
use Rattle.lp_calculus.specs.Term.{Term}
use Rattle.lp_calculus.specs.Fill.{close}
use Rattle.lp_model.specs.declared.ending.Ending.TheVariants.{NoMore}
use Rattle.lp_model.specs.Skeleton.{Told, run}
use Rattle.lp_lemmas.specs.Each.{AnyOf, EachOf}
use Rattle.lp_model.specs.Horn.{Declared, Clause, Query, counted, counted_query, IsValue, IsClause, IsQuery, AreArguments}
use Rattle.lp_model.specs.HornProofs.{IsProvable}
use Rattle.lp_model.specs.HornSearch.{AnswerOf, by_number, look, start}

-- a closing of variables of these types: each gets a closed positive term of its type
pub record Closes (d : Declared) (V : List Ty) (σ : ℕ → ℕ → Term) : Type 0 where
  pub at : (x : ℕ) (T : Ty) → slice_get V x ≡ Some T → IsValue d (σ x 0) T

abbrev pub Answer : Type 0
Answer = AnswerOf (List Ty)

abbrev pub HornAnswer : Type 0
HornAnswer = AnswerOf ℕ

-- some closing of the answer gives this instance
pub record IsInstance (d : Declared) (i : List Term) (a : Answer) : Type 0 where
  pub closing : ℕ → ℕ → Term
  pub closes : Closes d a.vars closing
  pub gives : map (close closing) a.values ≡ i

-- an answer is well formed: its values have the types of the query's variables
abbrev pub IsAnswer : Declared → Query → Answer → Type 0
IsAnswer d q a = AreArguments d a.vars [] a.values q.vars

-- what was told of a query is right
pub record IsRight (d : Declared) (P : List Clause) (q : Query) (t : Told Answer) : Type 0 where
  pub well_formed : EachOf (IsAnswer d q) t.answers
  pub sound : EachOf (λ a. (i : List Term) → IsInstance d i a → IsProvable d P q i) t.answers
  pub exhausts : t.ending ≡ Some NoMore → (i : List Term) → IsProvable d P q i → AnyOf (IsInstance d i) t.answers

-- with the number of an answer's variables in place of their types
abbrev pub counted_answer : Answer → HornAnswer
counted_answer a = record { vars = length a.vars; values = a.values }

abbrev pub counted_told : Told Answer → Told HornAnswer
counted_told t = record { answers = map counted_answer t.answers; notes = t.notes; steps = t.steps; ending = t.ending }

-- what was told by a search that keeps the number of the variables is right: types can be given to the variables of its answers
pub record IsRightCounted (d : Declared) (P : List Clause) (q : Query) (t : Told HornAnswer) : Type 0 where
  pub typed : Told Answer
  pub is : t ≡ counted_told typed
  pub right : IsRight d P q typed

-- each run of the search on well-typed clauses and a well-typed query is right, however far it went
abbrev pub HornSearchIsRight : Type 0
HornSearchIsRight =
    (d : Declared) (P : List Clause) (q : Query) → EachOf (IsClause d) P → IsQuery d q → (steps answers j n : ℕ) →
    IsRightCounted d P q (run (look by_number (map counted P)) j n (start by_number (counted_query q) steps answers))
