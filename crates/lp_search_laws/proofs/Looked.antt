-- What a branch leaves that is looked at.
use Rattle.lp_proof_laws.proofs.Uniform.Settings.{IsSetting}
use Rattle.std.proofs.Common.{◌≡◌, ℕ, suc, List, [], ◌∷◌, Bool, true, false, Option, Some, None, ◌∙◌, refl, sym, ap}
use Rattle.lp_calculus.specs.Types.{Ty}
use Rattle.lp_calculus.specs.Term.{Term, atom, eigen, logic}
use Rattle.lp_model.specs.Unify.{unit_limit}
use Rattle.lp_model.specs.Look.{head_normal}
use Rattle.lp_calculus.specs.Spine.{head_of}
use Rattle.lp_standard.specs.Connectives.{connective_of}
use Rattle.lp_standard.specs.Connectives as connective
use Rattle.lp_model.specs.Flat.{Goal, Atomic, Cut, Either, Exists, Forall, Assume, Not, Written, Goals, Clause}
use Rattle.lp_model.specs.Branch.{Entry, Branch, Go, both_written}
use Rattle.lp_model.specs.Answers.{Query, AnswerTyping}
use Rattle.lp_model.specs.Proofs.{Declared, Leaves}
use Rattle.lp_model.specs.Search.{with_goals, look, look_branch, look_goal, look_normal, look_not, look_atom, has_variables}
use Rattle.lp_search_laws.specs.Branches.{BranchTyping, IsTypedBranch, IsAtAtom, going}
use Rattle.lp_search_laws.specs.Views.{IsRightView}
use Rattle.lp_search_laws.proofs.Opened.{by_cases}
use Rattle.lp_search_laws.proofs.Fronts.{Typings, Typed as IsTypedHere}
use Rattle.lp_search_laws.proofs.GoalViews.{cut_stands, either_stands, forall_stands, denied_stands, open_stands, assume_stands, exists_stands}
use Rattle.lp_search_laws.proofs.FormViews.{form_view}
use Rattle.lp_search_laws.proofs.Standing.{proved_branches_answer}

module _ {L : Leaves} (n height : ℕ) (d : Declared) (std : IsSetting L d) (P : List Clause) (q : Query) (z : AnswerTyping) (b : Branch) where
  abbrev pub Atoms : List Ty → List (List Ty) → Entry → List Entry → Type 0
  Atoms E Es e es = (t u : Term) → e.goal ≡ Atomic t → head_normal n t ≡ Some u → connective_of u ≡ connective.Atomic → IsRightView L n d P q (going (Typings n d P q z b E Es e es (E ∷ Es)) (with_goals b (e ∷ es))) (look_atom unit_limit n P height e (with_goals b es) u (head_of u))

  module _ (E : List Ty) (Es : List (List Ty)) (e : Entry) (es : List Entry) (h : IsTypedHere n d P q z b E Es e es) (atoms : Atoms E Es e es) where
    normal_view : (t : Term) → e.goal ≡ Atomic t → (o : Option Term) → head_normal n t ≡ o → IsRightView L n d P q (going (Typings n d P q z b E Es e es (E ∷ Es)) (with_goals b (e ∷ es))) (look_normal unit_limit n P height e (with_goals b es) o)
    normal_view t i None x = tt
    normal_view t i (Some u) x = form_view n d std P q z b E Es e es h t u i x height (λ p. atoms t u i x p) (connective_of u) refl

    denied_view : (ws : Written) (gs : Goals) → e.goal ≡ Not ws gs → (o : Option Bool) → has_variables n (both_written ws e.written) ≡ o → IsRightView L n d P q (going (Typings n d P q z b E Es e es (E ∷ Es)) (with_goals b (e ∷ es))) (look_not e (with_goals b es) gs o)
    denied_view ws gs i None x = tt
    denied_view ws gs i (Some true) x = open_stands n d std P q z b E Es e es h
    denied_view ws gs i (Some false) x = denied_stands n d std P q z b E Es e es h ws gs i x

    goal_view : (g : Goal) → e.goal ≡ g → IsRightView L n d P q (going (Typings n d P q z b E Es e es (E ∷ Es)) (with_goals b (e ∷ es))) (look_goal unit_limit n P height e (with_goals b es) g)
    goal_view (Atomic t) i = normal_view t i (head_normal n t) refl
    goal_view Cut i = cut_stands n d std P q z b E Es e es h i
    goal_view (Either l r) i = either_stands n d std P q z b E Es e es h l r i
    goal_view (Exists T gs) i = exists_stands n d std P q z b E Es e es h T gs _ (by_cases (atom (logic b.next e.level)) _ refl (λ j. refl)) i
    goal_view (Forall T gs) i = forall_stands n d std P q z b E Es e es h T gs _ (by_cases (atom (eigen (suc e.level))) _ refl (λ j. refl)) i
    goal_view (Not ws gs) i = denied_view ws gs i (has_variables n (both_written ws e.written)) refl
    goal_view (Assume ws cs gs) i = assume_stands n d std P q z b E Es e es h ws cs gs i

  pub branch_view : (Es : List (List Ty)) (gs : List Entry) → IsTypedBranch n d q (record { answer = z; eigens = Es }) (with_goals b gs) →
      ((E : List Ty) (Fs : List (List Ty)) (e : Entry) (es : List Entry) → Es ≡ E ∷ Fs → gs ≡ e ∷ es → IsTypedHere n d P q z b E Fs e es → Atoms E Fs e es) →
      IsRightView L n d P q (going (record { answer = z; eigens = Es }) (with_goals b gs)) (look_branch unit_limit n P height (with_goals b gs) gs)
  branch_view Es [] h f = proved_branches_answer _ n height d P q (record { answer = z; eigens = Es }) (with_goals b []) refl h
  branch_view [] (e ∷ es) h f = absurd h.entries
  branch_view (E ∷ Es) (e ∷ es) h f = goal_view E Es e es h (f E Es e es refl refl h) e.goal refl

pub goals_are_taken_apart : {L : Leaves} (n height : ℕ) (d : Declared) → IsSetting L d → (P : List Clause) (q : Query) (y : BranchTyping) (b : Branch)
    (e : Entry) (es : List Entry) → b.goals ≡ e ∷ es → (IsAtAtom n e → ⊥) → IsTypedBranch n d q y b → IsRightView L n d P q (going y b)
    (look unit_limit n P height (Go b))
goals_are_taken_apart {L} n height d std P q y b e es i f h =
    branch_view n height d std P q y.answer b y.eigens b.goals h (λ E Fs e' es' j k g t u x r p. absurd (f (let s : e' ≡ e = (let m = sym k in cc) in record { term = t; goal = ap (λ v. v.goal) (sym s) ∙ x; form = u; comes = r; plain = p })))
