-- What a look at a typed task leaves, as it should be: typed tasks with the same solutions, in the place of the task, with the typings that the search gives.
use Rattle.std.specs.Prelude.{◌≡◌, ◌≢◌, ℕ, Bool, false, List, [], ◌∷◌, map, length, Some}
use Rattle.lp_calculus.specs.Types.{Ty}
use Rattle.lp_calculus.specs.Typing.{o_type}
use Rattle.lp_model.specs.declared.ending.Ending.TheVariants.{NoMore}
use Rattle.lp_lemmas.specs.Each.{AnyOf, EachOf}
use Rattle.lp_model.specs.Skeleton.{View, Gives, Opens, Parts, Takes, Cuts, Denies, Halts, Lacks}
use Rattle.lp_model.specs.Pair.{Closing}
use Rattle.lp_model.specs.Flat.{Goals, Clause, formula_of_goals, formula_of_clause, Written}
use Rattle.lp_model.specs.Proofs.{Declared, Leaves}
use Rattle.lp_model.specs.Answers.{Query, Variable, AnswerTyping, Instance, Closes, IsInstance, IsWellFormed}
use Rattle.lp_model.specs.Branch.{both_written, Branch, Answer, Task, Go}
use Rattle.lp_model.specs.Search.{has_no_pairs, has_variables}
use Rattle.lp_search_laws.specs.Denials.{denied_branch, denied_task}
use Rattle.lp_search_laws.specs.Holds.{IsTyped}
use Rattle.lp_search_laws.specs.Written.{IsOrigin, IsWrittenPlace}
use Rattle.lp_search_laws.specs.Branches.{BranchTyping, IsTypedBranch, IsQueryInstance, SolvesBranch, TypedTask, going, trying, stopping, lacking, task_of, IsOk, Sol, no_query, denied_typing, HasLeaf, answer_of}
use Rattle.lp_search_laws.specs.Given.{IsTypedFrom}

-- tasks in the place of a typed task: they have typings, as the search gives them, with the same instances among their solutions
pub record StandFor (L : Leaves) (n : ℕ) (d : Declared) (P : List Clause) (q : Query) (T : TypedTask) (ts : List Task) : Type 0 where
  pub typed : List TypedTask
  pub is : map task_of typed ≡ ts
  pub ok : EachOf (IsOk n d P q) typed
  pub given : EachOf (IsTypedFrom n d T) typed
  pub keeps : (i : Instance) → Sol L d P q i T → AnyOf (Sol L d P q i) typed
  pub gives : (i : Instance) → AnyOf (Sol L d P q i) typed → Sol L d P q i T

-- a solution of a task in which a negated goal stands: a leaf stands for its goals, and it solves what is behind
pub record SolvesDenied (L : Leaves) (d : Declared) (P : List Clause) (q : Query) (i : Instance) (V : List Variable) (E : List Ty) (A : List Clause) (gs : Goals) (y : BranchTyping) (b : Branch) : Type 0 where
  pub closing : Closing
  pub closes : Closes d V closing
  pub leaf : HasLeaf L P closing E A gs
  pub rest : SolvesBranch L d P q i y b

-- of a negated goal: what is written in its goals and in what is assumed there is tested; its search begins with a typed branch, over the same variables and of no
-- query; what stands behind it is a typed branch; each solution of the task is one of what is behind, with a leaf for the goals; and where for each closing of the
-- variables a leaf stands for its goals, what is behind has only solutions of the task
pub record DeniesTyped (L : Leaves) (n : ℕ) (d : Declared) (P : List Clause) (q : Query) (T : TypedTask) (u : Task) (is_final : Answer → Bool) (ts : List Task) : Type 0 where
  pub variables : List Variable
  pub eigens : List Ty
  pub next_type : ℕ
  pub goals : Goals
  pub own : Written
  pub assumed : List Clause
  pub written : Written
  pub is : u ≡ denied_task (length variables) next_type goals assumed written (length eigens)
  pub final : is_final ≡ has_no_pairs
  pub origin : IsOrigin own goals
  pub place : IsWrittenPlace assumed written
  pub tested : has_variables n (both_written own written) ≡ Some false
  pub begins : IsTypedBranch n d no_query (denied_typing variables eigens goals) (denied_branch (length variables) next_type goals assumed written (length eigens))
  pub typed : IsTyped d eigens variables (formula_of_goals goals) o_type
  pub assumed_typed : EachOf (λ c. IsTyped d eigens variables (formula_of_clause c) o_type) assumed
  pub rest_typing : BranchTyping
  pub rest : Branch
  pub goes_on : ts ≡ Go rest ∷ []
  pub after : IsTypedBranch n d q rest_typing rest
  pub given : IsTypedFrom n d T (going rest_typing rest)
  pub keeps : (i : Instance) → Sol L d P q i T → SolvesDenied L d P q i variables eigens assumed goals rest_typing rest
  pub gives : ((c : Closing) → Closes d variables c → HasLeaf L P c eigens assumed goals) → (i : Instance) → SolvesBranch L d P q i rest_typing rest → Sol L d P q i T

abbrev pub IsAnswerOf : TypedTask → AnswerTyping → Answer → Type 0
IsAnswerOf (going y b) z a = (b.goals ≡ []) × (a ≡ answer_of b) × (z ≡ y.answer)
IsAnswerOf (trying y c t e b mark) z a = ⊥
IsAnswerOf (stopping e T) z a = ⊥
IsAnswerOf (lacking T) z a = ⊥

-- an answer in its place
pub record AnswersFor (L : Leaves) (d : Declared) (P : List Clause) (q : Query) (T : TypedTask) (a : Answer) : Type 0 where
  pub typing : AnswerTyping
  pub given : IsAnswerOf T typing a
  pub ok : IsWellFormed d q typing a
  pub keeps : (i : Instance) → Sol L d P q i T → IsQueryInstance d q i × IsInstance d typing a i
  pub gives : (i : Instance) → IsQueryInstance d q i → IsInstance d typing a i → Sol L d P q i T

-- what a typed task may turn out to be; what the search of a negated goal says is not said here
abbrev pub IsRightView : Leaves → (n : ℕ) → Declared → (P : List Clause) → Query → TypedTask → View Task Answer → Type 0
IsRightView L n d P q T (Gives a) = AnswersFor L d P q T a
IsRightView L n d P q T (Opens ts) = StandFor L n d P q T ts
IsRightView L n d P q T (Parts ts) = StandFor L n d P q T ts
IsRightView L n d P q T (Takes name ts) = StandFor L n d P q T ts
IsRightView L n d P q T (Cuts m ts) = StandFor L n d P q T ts
IsRightView L n d P q T (Denies t is_final ts) = DeniesTyped L n d P q T t is_final ts
IsRightView L n d P q T (Halts e) = e ≢ NoMore
IsRightView L n d P q T Lacks = Unit {0}
