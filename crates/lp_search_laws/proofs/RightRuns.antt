-- Without negated goals each run of typed tasks is right.
use Rattle.std.proofs.Common.{ℕ, List, [], ◌∷◌, refl, inl, inr}
use Rattle.std.specs.Prelude.{false}
use Rattle.lp_lemmas.specs.Each.{AnyOf, EachOf}
use Rattle.lp_model.specs.Unify.{unit_limit}
use Rattle.lp_model.specs.Skeleton.{View, Gives, Opens, Parts, Takes, Cuts, Denies, Halts, Lacks, starts, run}
use Rattle.lp_model.specs.Flat.{Clause}
use Rattle.lp_model.specs.Branch.{Branch, Answer, Task, Go}
use Rattle.lp_model.specs.Proofs.{Declared, no_leaf}
use Rattle.lp_model.specs.Answers.{Query, Instance, IsInstance, TypedAnswer}
use Rattle.lp_model.specs.Search.{look}
use Rattle.lp_search_laws.specs.Branches.{TypedTask, going, task_of, IsOk, Sol, BranchTyping, IsTypedBranch, IsQueryInstance, SolvesBranch}
use Rattle.lp_search_laws.specs.Views.{IsRightView}
use Rattle.lp_search_laws.specs.Right.{IsRightOf}
use Rattle.lp_search_laws.specs.Unnegated.{IsUnnegatedClause}
use Rattle.lp_search_laws.proofs.Unnegated.{IsUnnegatedTask}
use Rattle.lp_search_laws.proofs.Runs.{Stays, RightRun, run_right}
use Rattle.lp_search_laws.proofs.Unnegated.{IsUnnegatedView, unnegated_look}

none_denied : (v : View Task Answer) → IsUnnegatedView v → Stays IsUnnegatedTask (λ t. ⊥) v
none_denied (Gives a) u = tt
none_denied (Opens ts) u = u
none_denied (Parts ts) u = u
none_denied (Takes name ts) u = u
none_denied (Cuts m ts) u = u
none_denied (Denies t is_final ts) u = absurd u
none_denied (Halts e) u = tt
none_denied Lacks u = tt

module _ (n : ℕ) (d : Declared) (P : List Clause) (program : EachOf IsUnnegatedClause P) (q : Query)
    (looks : (height : ℕ) (T : TypedTask) → IsOk n d P q T → IsRightView no_leaf n d P q T (look unit_limit n P height (task_of T)))
    (y : BranchTyping) (b : Branch) (h : IsTypedBranch n d q y b) (pure : IsUnnegatedTask (Go b)) (j m steps answers : ℕ) where
  told : RightRun n d P q no_leaf j IsUnnegatedTask (λ t. ⊥) (λ k. Unit {0}) (λ k. Unit {0}) false (going y b ∷ []) (run (look unit_limit n P) j m (starts (Go b) steps answers))
  told = run_right n d P q no_leaf j IsUnnegatedTask (λ t. ⊥) (λ k. Unit {0}) (λ k. Unit {0}) looks (λ height T k u. none_denied (look unit_limit n P height (task_of T)) (unnegated_look unit_limit n P program height (task_of T) u)) (λ x z l f. f) (λ x z l f. f)
      (λ T u f ts r x st rows k p ns e o c cl. absurd x) (λ T u f ts r x st rows k p ns e o c cl z. x) m (starts (Go b) steps answers) (going y b ∷ []) refl ((h, pure), tt)

  each_sound : (as' : List TypedAnswer) → EachOf (λ a. (i : Instance) → IsQueryInstance d q i → IsInstance d a.typing a.answer i → AnyOf
      (Sol no_leaf d P q i) (going y b ∷ [])) as' → EachOf (λ a. (i : Instance) → IsQueryInstance d q i → IsInstance d a.typing a.answer i →
      SolvesBranch no_leaf d P q i y b) as'
  each_sound [] s = tt
  each_sound (a ∷ as') s = (λ i x z. elim (s.0 i x z) [ inl w ↦ w | inr w ↦ absurd w ], each_sound as' s.1)

  pub right_run : IsRightOf no_leaf d P q y b (run (look unit_limit n P) j m (starts (Go b) steps answers))
  right_run = record { typed = told.typed; is = told.is; well_formed = told.well_formed; sound = each_sound told.typed (told.sound tt); exhausts = λ e i s. told.exhausts e tt i (inl s) }
