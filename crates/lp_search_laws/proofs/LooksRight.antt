-- Each look at a typed task is right, and so is each run.
use Rattle.lp_proof_laws.proofs.Uniform.Settings.{IsSetting, without_leaves}
use Rattle.std.proofs.Common.{◌≡◌, ℕ, List, [], ◌∷◌, length, Some, refl}
use Rattle.lp_calculus.specs.Types.{Ty}
use Rattle.lp_model.specs.Unify.{unit_limit}
use Rattle.lp_lemmas.specs.Each.{EachOf}
use Rattle.lp_standard.specs.Connectives.{two}
use Rattle.lp_standard.specs.Schemes.{IsStandard}
use Rattle.lp_model.specs.Skeleton.{starts, run}
use Rattle.lp_model.specs.Values.{evaluate}
use Rattle.lp_model.specs.Flat.{Goals, Clause}
use Rattle.lp_model.specs.Flatten.{ClauseFormula, flatten_query}
use Rattle.lp_model.specs.Branch.{Entry, Branch, Go}
use Rattle.lp_model.specs.Answers.{Query, AnswerTyping, Instance, IsInstance, TypedAnswer}
use Rattle.lp_model.specs.Proofs.{Declared, AreFlattened, Leaves, no_leaf}
use Rattle.lp_model.specs.Search.{with_goals, look, start}
use Rattle.lp_search_laws.specs.Started.{IsPlainQuery, IsPlainSentence, IsPlainlyProvable}
use Rattle.lp_search_laws.specs.Unnegated.{IsUnnegatedClause, AreUnnegatedGoals}
use Rattle.lp_search_laws.proofs.Unnegated.{IsUnnegatedTask}
use Rattle.lp_search_laws.proofs.UnnegatedStarts.{typed_sentences, program_unnegated, query_unnegated, start_unnegated}
use Rattle.lp_search_laws.specs.Begun.{first_branch, first_typing}
use Rattle.lp_search_laws.specs.Right.{IsRightFor, IsRightOf}
use Rattle.lp_search_laws.specs.Branches.{BranchTyping, IsTypedBranch, IsProgramTyped, IsQueryInstance, SolvesBranch, TypedTask, going, trying, stopping, lacking, task_of, IsOk}
use Rattle.lp_search_laws.specs.Views.{IsRightView}
use Rattle.lp_search_laws.proofs.Fronts.{Typings, Typed as IsTypedHere}
use Rattle.lp_search_laws.proofs.AtomViews.{atom_view}
use Rattle.lp_search_laws.proofs.ArithmeticTasks.{assigned_stands, comparisons_stand}
use Rattle.lp_search_laws.proofs.Tried.{atoms_are_tried}
use Rattle.lp_search_laws.proofs.Looked.{Atoms, branch_view}
use Rattle.lp_search_laws.proofs.RightRuns.{right_run}
use Rattle.lp_search_laws.proofs.EqualStands.{equality_stands}
use Rattle.lp_search_laws.proofs.TriesRight.{tries_stand}
use Rattle.lp_search_laws.proofs.Begins.{start_typed, solves, proves_it, program_typed}

module _ {L : Leaves} (n : ℕ) (d : Declared) (std : IsSetting L d) (P : List Clause) (program : EachOf (IsProgramTyped d) P) (q : Query) where
  atoms : (height : ℕ) (z : AnswerTyping) (b : Branch) (E : List Ty) (Es : List (List Ty)) (e : Entry) (es : List Entry) → IsTypedHere n d P q z b E Es e es → Atoms n height d std P q z b E Es e es
  atoms height z b E Es e es h t u i r p = atom_view n d std P q z b E Es e es h t u i r p height
      (λ a. atoms_are_tried n height d std P program q (Typings n d P q z b E Es e es (E ∷ Es)) (with_goals b (e ∷ es)) e es t u refl i r a h)
      (λ T l w s. equality_stands n d std P q (Typings n d P q z b E Es e es (E ∷ Es)) (with_goals b (e ∷ es)) e es t u T l w refl i r s h)
      (λ T l w s. assigned_stands n d std P q z b E Es e es t u i r h (λ x U l' r' j k g. equality_stands n d std P q (Typings n d P q z b E Es e es (E ∷ Es)) (with_goals b (x ∷ es)) x es (two 8 (U ∷ []) l' r') (two 8 (U ∷ []) l' r') U l' r' refl j k refl g) T l w s (evaluate n w) refl)
      (λ c l w x y s. comparisons_stand n d std P q (Typings n d P q z b E Es e es (E ∷ Es)) (with_goals b (e ∷ es)) e es t u c [] l w refl i r s x y h)

  pub each_branch : (height : ℕ) (y : BranchTyping) (b : Branch) → IsTypedBranch n d q y b → IsRightView L n d P q (going y b) (look unit_limit n P height (Go b))
  each_branch height y b h = branch_view n height d std P q y.answer b y.eigens b.goals h (λ E Fs e es i j g. atoms height y.answer b E Fs e es g)

module _ {L : Leaves} (n : ℕ) (d : Declared) (std : IsSetting L d) (P : List Clause) (program : EachOf (IsProgramTyped d) P) (q : Query) where
  pub each_look : (height : ℕ) (T : TypedTask) → IsOk n d P q T → IsRightView L n d P q T (look unit_limit n P height (task_of T))
  each_look height (going y b) h = each_branch n d std P program q height y b h
  each_look height (trying y c t e b mark) h = tries_stand n d std P program q y c t e b mark h
  each_look height (stopping e T) h = h
  each_look height (lacking T) h = tt

-- without negation
module _ (n : ℕ) (d : Declared) (std : IsStandard d) (P : List Clause) (program : EachOf (IsProgramTyped d) P) (q : Query) where
  pub each_run : EachOf IsUnnegatedClause P → (y : BranchTyping) (b : Branch) → IsTypedBranch n d q y b → IsUnnegatedTask (Go b) → (j m steps answers : ℕ) → IsRightOf no_leaf d P q y b (run (look unit_limit n P) j m (starts (Go b) steps answers))
  each_run pure y b h u j m steps answers = right_run n d P pure q (each_look n d (without_leaves d std) P program q) y b h u j m steps answers

  -- a query: its typed branch, and its instances
  module _ (F : List ClauseFormula) (pure : EachOf IsUnnegatedClause P) (gs : Goals) (unnegated : AreUnnegatedGoals gs) (first : IsTypedBranch n d q (first_typing q gs) (first_branch q.type_vars (length q.vars) gs))
      (solved : (i : Instance) → (IsPlainlyProvable d F q i → SolvesBranch no_leaf d P q i (first_typing q gs) (first_branch q.type_vars (length q.vars) gs)) × (SolvesBranch no_leaf d P q i (first_typing q gs) (first_branch q.type_vars (length q.vars) gs) → IsPlainlyProvable d F q i)) where
    each_sound : (xs : List TypedAnswer) → EachOf (λ a. (i : Instance) → IsQueryInstance d q i → IsInstance d a.typing a.answer i → SolvesBranch no_leaf d P q i (first_typing q gs) (first_branch q.type_vars (length q.vars) gs)) xs →
        EachOf (λ a. (i : Instance) → IsQueryInstance d q i → IsInstance d a.typing a.answer i → IsPlainlyProvable d F q i) xs
    each_sound [] h = tt
    each_sound (x ∷ xs) h = (λ i a s. (solved i).1 (h.0 i a s), each_sound xs h.1)

    pub search_is_right : (j m steps answers : ℕ) → IsRightFor d F q (run (look unit_limit n P) j m (start q.type_vars (length q.vars) gs steps answers))
    search_is_right j m steps answers =
        let r = each_run pure (first_typing q gs) (first_branch q.type_vars (length q.vars) gs) first (start_unnegated q.type_vars (length q.vars) gs unnegated) j m steps answers in
        record { typed = r.typed; is = r.is; well_formed = r.well_formed; sound = each_sound r.typed r.sound; exhausts = λ e i p. r.exhausts e i ((solved i).0 p) }

pub plain_search_is_right : (d : Declared) → IsStandard d → (l : ℕ) (F : List ClauseFormula) (P : List Clause) → EachOf (IsPlainSentence d) F → AreFlattened d F P → (q : Query) (gs : Goals) → IsPlainQuery d q → flatten_query l d q.formula ≡ Some gs →
    (n j m steps answers : ℕ) → IsRightFor d F q (run (look unit_limit n P) j m (start q.type_vars (length q.vars) gs steps answers))
plain_search_is_right d std l F P s x q gs t e n j m steps answers =
    let s' = typed_sentences d F s in
    search_is_right n d std P (program_typed d std F P s' x) q F (program_unnegated d F P s x) gs (query_unnegated d l q gs t e)
    (start_typed d std l q gs t.typed e n steps answers).1 (λ i. (
      solves d (without_leaves d std) l q gs t.typed e F P s' x
          ((λ S n y H f h. h), (λ S n y H f h. h)) i,
      proves_it d (without_leaves d std) l q gs t.typed e F P s' x
          ((λ S n y H f h. h), (λ S n y H f h. h)) i,
    )) j m steps answers
