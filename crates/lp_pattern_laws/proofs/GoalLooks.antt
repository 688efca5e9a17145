-- What a look at a typed branch of pattern text leaves: tasks of pattern text, where `sigma` stands in no atom.
use Rattle.std.proofs.Common.{◌≡◌, ℕ, suc, ◌<◌, ◌≤◌, List, [], ◌∷◌, ◌++◌, Option, Some, None, Bool, true, false, refl, sym, subst as transport, arith}
use Rattle.lp_calculus.specs.Types.{Ty}
use Rattle.lp_calculus.specs.Term.{Term, app, atom, eigen, logic, substitute}
use Rattle.lp_calculus.specs.Closed.{AllAtoms}
use Rattle.lp_calculus.proofs.Fills.{within_more}
use Rattle.lp_lemmas.specs.Each.{EachOf}
use Rattle.lp_lemmas.proofs.Each.{each_append}
use Rattle.lp_model.specs.Look.{head_normal}
use Rattle.lp_model.specs.Unify.{unit_limit}
use Rattle.lp_standard.specs.Connectives.{Connective, body_of, connective_of, pi_of, sigma_of, two}
use Rattle.lp_standard.specs.Connectives as connective
use Rattle.lp_standard.specs.Schemes.{IsStandard}
use Rattle.lp_model.specs.Flat.{Goal, Atomic, Cut, Either, Exists, Forall, Assume, Not, Goals, clause_list, Clause}
use Rattle.lp_model.specs.Branch.{Entry, Branch, both_written}
use Rattle.lp_model.specs.Answers.{Query, AnswerTyping}
use Rattle.lp_model.specs.Proofs.{Declared}
use Rattle.lp_model.specs.Search.{with_goals, in_place, at_next_level, has_variables, look_form, look_normal, look_not, look_goal, look_branch}
use Rattle.lp_proof_laws.proofs.Uniform.Forms.{Shape, form_shape}
use Rattle.lp_unify_laws.proofs.Looks.{head_reduces}
use Rattle.lp_search_laws.specs.Branches.{IsTypedBranch}
use Rattle.lp_search_laws.proofs.AtomsKept.{atoms_reduces}
use Rattle.lp_search_laws.proofs.Closed.{body_opens}
use Rattle.lp_search_laws.proofs.Fronts.{Typed as IsTypedHere}
use Rattle.lp_search_laws.proofs.KeptTasks.{IsGoalWith, IsKeptEntry}
use Rattle.lp_search_laws.proofs.RunsKeep.{Good, Any}
use Rattle.lp_search_laws.proofs.Stack.AllFine.{LeavesFine}
use Rattle.lp_pattern_laws.specs.Patterns.{of_atom}
use Rattle.lp_pattern_laws.specs.Binders.{IsAtLevel}
use Rattle.lp_pattern_laws.specs.Goals.{IsPatternClause, IsPatternGoal}
use Rattle.lp_pattern_laws.specs.Tasks.{IsPatternBranch, IsPatternEntry}
use Rattle.lp_pattern_laws.proofs.AtomLooks.{atom_look}
use Rattle.lp_pattern_laws.proofs.ClosedPatterns.{IsPatternAt, stays_at, at_apart, at_stays, at_reduces, above_at}
use Rattle.lp_pattern_laws.proofs.Comes.{of_term, on_eigen}
use Rattle.lp_pattern_laws.proofs.GoalLists.{all_deeper, clauses_each, goals_entries}
use Rattle.lp_pattern_laws.proofs.GoalsMapped.{term_opens, eigen_opens}
use Rattle.lp_pattern_laws.proofs.NoSigma.{IsOther, Plain, no_sigma, others}
use Rattle.lp_pattern_laws.proofs.PatternTasks.{IsPatternTask, HasNoPair}
use Rattle.lp_pattern_laws.proofs.Staying.{level_more}

-- the body of what a `pi` stands on with a new eigenconstant for its variable
opened_at : (l : ℕ) (a : Term) → IsPatternAt l a → IsPatternAt (suc l) (substitute (atom (eigen (suc l))) (body_of a))
opened_at l a p =
    let less : l < suc l = omega arith in
    let own : suc l ≤ suc l = omega arith in
    at_reduces (suc l) (app a (atom (eigen (suc l)))) (substitute (atom (eigen (suc l))) (body_of a)) (body_opens a (atom (eigen (suc l)))) (
      on_eigen a (suc l) p.0 (above_at l (suc l) a less p),
      (within_more (IsAtLevel l) (IsAtLevel (suc l)) 0 0 (level_more l (suc l) (omega arith)) (omega arith) a p.1, own),
    )

module _ (n height : ℕ) (d : Declared) (std : IsStandard d) (P : List Clause) (texts : EachOf (IsPatternClause 0 []) P) (q : Query) (z : AnswerTyping) (b : Branch) where
  module _ (E : List Ty) (Es : List (List Ty)) (e : Entry) (es : List Entry) (h : IsTypedHere n d P q z b E Es e es)
      (own : EachOf (IsPatternClause e.level []) e.assumed) (rest : IsPatternBranch (with_goals b es)) where
    -- entries in front, with another number of the next variable
    led : (m : ℕ) (fs : List Entry) → EachOf IsPatternEntry fs → IsPatternBranch (record { next = m; next_type = b.next_type; goals = fs ++ es; types = b.types; values = b.values; pairs = b.pairs })
    led m fs w = record { entries = each_append IsPatternEntry fs es w rest.entries; pairs = rest.pairs }

    placed : (ts : List Term) → EachOf (IsPatternAt e.level) ts → EachOf IsPatternEntry (in_place e ts)
    placed [] w = tt
    placed (t ∷ ts) w = (record { goal = at_stays e.level t w.0; assumed = own }, placed ts w.1)

    deeper : EachOf (IsPatternClause (suc e.level) []) e.assumed
    deeper = all_deeper e.level (suc e.level) (omega arith) e.assumed own

    form_look : (t u : Term) → e.goal ≡ Atomic t → head_normal n t ≡ Some u → IsPatternAt e.level u → AllAtoms (Good IsOther Any) u → (f : Connective) → connective_of u ≡ f →
        LeavesFine IsPatternTask HasNoPair (look_form unit_limit n P height e (with_goals b es) u f)
    form_look t u i r p k connective.True x = (rest, tt)
    form_look t u i r p k connective.Cut x = tt
    form_look t u i r p k (connective.And l w) x =
        let s : u ≡ two 0 [] l w = transport (λ f. Shape f u) x (form_shape u) in
        let a = at_apart e.level _ w tt (transport (IsPatternAt e.level) s p) in
        let c = at_apart e.level _ l tt a.0 in
        (led b.next (in_place e (l ∷ w ∷ [])) (placed (l ∷ w ∷ []) (c.1, (a.1, tt))), tt)
    form_look t u i r p k (connective.Or l w) x =
        let s : u ≡ two 1 [] l w = transport (λ f. Shape f u) x (form_shape u) in
        let a = at_apart e.level _ w tt (transport (IsPatternAt e.level) s p) in
        let c = at_apart e.level _ l tt a.0 in
        (led b.next (in_place e (l ∷ [])) (placed (l ∷ []) (c.1, tt)), (led b.next (in_place e (w ∷ [])) (placed (w ∷ []) (a.1, tt)), tt))
    form_look t u i r p k (connective.ForAll T s) x =
        let g = transport (λ f. Shape f u) x (form_shape u) in
        let a = at_apart e.level _ g.0 tt (transport (IsPatternAt e.level) g.1 p) in
        let o : IsPatternAt (suc e.level) (substitute (atom (eigen (suc e.level))) s) = transport
        (λ v. IsPatternAt (suc e.level) (substitute (atom (eigen (suc e.level))) v)) (sym g.2) (opened_at e.level g.0 a.1) in
        (led b.next (at_next_level e (substitute (atom (eigen (suc e.level))) s) ∷ []) (record { goal = at_stays (suc e.level) _ o; assumed = deeper }, tt), tt)
    form_look t u i r p k (connective.Exists T s) x = absurd (no_sigma Any u k T s x)
    form_look t u i r p k (connective.Implies c g) x = tt
    form_look t u i r p k (connective.Not g) x = tt
    form_look t u i r p k connective.Atomic x = atom_look n height d std P texts q z b E Es e es h own rest t u i r x p

    normal_look : (t : Term) → e.goal ≡ Atomic t → IsPatternAt e.level t → AllAtoms (Good IsOther Any) t → (o : Option Term) → head_normal n t ≡ o →
        LeavesFine IsPatternTask HasNoPair (look_normal unit_limit n P height e (with_goals b es) o)
    normal_look t i p k None r = tt
    normal_look t i p k (Some u) r =
        let w = head_reduces n t u r in
        form_look t u i r (at_reduces e.level t u w p) (atoms_reduces (Good IsOther Any) w k) (connective_of u) refl

    not_look : (gs : Goals) (o : Option Bool) → LeavesFine IsPatternTask HasNoPair (look_not e (with_goals b es) gs o)
    not_look gs None = tt
    not_look gs (Some true) = (tt, tt)
    not_look gs (Some false) = (rest, tt)

    goal_look : (g : Goal) → e.goal ≡ g → IsPatternGoal e.level [] g → IsGoalWith (Plain Any) g → LeavesFine IsPatternTask HasNoPair (look_goal unit_limit n P height e (with_goals b es) g)
    goal_look (Atomic t) i p k = normal_look t i (stays_at e.level t p) k (head_normal n t) refl
    goal_look Cut i p k = (rest, tt)
    goal_look (Either l r) i p k =
        (led b.next _ (goals_entries l e.assumed e.written e.level e.mark p.0 own), (led b.next _ (goals_entries r e.assumed e.written e.level e.mark p.1 own), tt))
    goal_look (Exists T gs) i p k =
        let less : e.level ≤ e.level = omega arith in
        (led (suc b.next) _ (goals_entries _ e.assumed e.written e.level e.mark (term_opens e.level _ (atom (logic b.next e.level)) refl (of_term (of_atom (logic b.next e.level))) less gs p) own), tt)
    goal_look (Forall T gs) i p k =
        (led b.next _ (goals_entries _ e.assumed e.written (suc e.level) e.mark (eigen_opens e.level (suc e.level) (suc e.level) _ refl (omega arith) (omega arith) gs p) deeper), tt)
    goal_look (Assume x cs gs) i p k = (
      led b.next _ (goals_entries gs (clause_list cs ++ e.assumed) (both_written x e.written) e.level e.mark p.1
          (each_append (IsPatternClause e.level []) (clause_list cs) e.assumed (clauses_each e.level cs p.0) own)),
      tt,
    )
    goal_look (Not x gs) i p k = not_look gs (has_variables n (both_written x e.written))

  pub branch_look : (Es : List (List Ty)) (es : List Entry) → IsTypedBranch n d q (record { answer = z; eigens = Es }) (with_goals b es) → EachOf
      IsPatternEntry es → b.pairs ≡ [] → EachOf (IsKeptEntry Plain others Any) es →
      LeavesFine IsPatternTask HasNoPair (look_branch unit_limit n P height (with_goals b es) es)
  branch_look Es [] h p g k = g
  branch_look [] (e ∷ es) h p g k = absurd h.entries
  branch_look (E ∷ Es) (e ∷ es) h p g k = goal_look E Es e es h p.0.assumed (record { entries = p.1; pairs = g }) e.goal refl p.0.goal k.0.goal
