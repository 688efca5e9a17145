-- What is told of a query is right: lp_model's IsRight, of the query's instances.
use Rattle.std.specs.Prelude.{◌≡◌, List, map, Some}
use Rattle.lp_model.specs.declared.ending.Ending.TheVariants.{NoMore}
use Rattle.lp_model.specs.Skeleton.{Told}
use Rattle.lp_lemmas.specs.Each.{AnyOf, EachOf}
use Rattle.lp_model.specs.Flat.{Clause}
use Rattle.lp_model.specs.Flatten.{ClauseFormula}
use Rattle.lp_model.specs.Branch.{Branch, Answer}
use Rattle.lp_model.specs.Proofs.{Declared, Leaves}
use Rattle.lp_model.specs.Answers.{Query, Instance, IsClosedInstance, IsInstance, IsWellFormed, TypedAnswer}
use Rattle.lp_search_laws.specs.Started.{IsPlainlyProvable, IsProvableBy}
use Rattle.lp_search_laws.specs.Branches.{BranchTyping, IsQueryInstance, SolvesBranch}

-- the answers have typings under which each is well formed, each instance of the query that is one of an answer is provable, and after
-- `NoMore` each provable instance is one of an answer
pub record IsRightFor (d : Declared) (F : List ClauseFormula) (q : Query) (t : Told Answer) : Type 0 where
  pub typed : List TypedAnswer
  pub is : map (λ a. a.answer) typed ≡ t.answers
  pub well_formed : EachOf (λ a. IsWellFormed d q a.typing a.answer) typed
  pub sound : EachOf (λ a. (i : Instance) → IsQueryInstance d q i → IsInstance d a.typing a.answer i → IsPlainlyProvable d F q i) typed
  pub exhausts : t.ending ≡ Some NoMore → (i : Instance) → IsPlainlyProvable d F q i → AnyOf (λ a. IsInstance d a.typing a.answer i) typed

-- the same with such leaves, of closed instances of the answers; of each answer with its typing something holds besides
pub record IsRightBy (L : Leaves) (G : TypedAnswer → Type 0) (d : Declared) (F : List ClauseFormula) (q : Query) (t : Told Answer) : Type 0 where
  pub typed : List TypedAnswer
  pub is : map (λ a. a.answer) typed ≡ t.answers
  pub well_formed : EachOf (λ a. IsWellFormed d q a.typing a.answer) typed
  pub given : EachOf G typed
  pub sound : EachOf (λ a. (i : Instance) → IsClosedInstance d a.typing a.answer i → IsProvableBy L d F q i) typed
  pub exhausts : t.ending ≡ Some NoMore → (i : Instance) → IsProvableBy L d F q i → AnyOf (λ a. IsInstance d a.typing a.answer i) typed

-- the same of a branch: its solutions in the place of provable instances
pub record IsRightOf (L : Leaves) (d : Declared) (P : List Clause) (q : Query) (y : BranchTyping) (b : Branch) (t : Told Answer) : Type 0 where
  pub typed : List TypedAnswer
  pub is : map (λ a. a.answer) typed ≡ t.answers
  pub well_formed : EachOf (λ a. IsWellFormed d q a.typing a.answer) typed
  pub sound : EachOf (λ a. (i : Instance) → IsQueryInstance d q i → IsInstance d a.typing a.answer i → SolvesBranch L d P q i y b) typed
  pub exhausts : t.ending ≡ Some NoMore → (i : Instance) → SolvesBranch L d P q i y b → AnyOf (λ a. IsInstance d a.typing a.answer i) typed
