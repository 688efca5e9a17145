-- No answer of a search of pattern text has a pair left.
use Rattle.std.proofs.Common.{◌≡◌, ℕ, suc, ◌-◌, ◌≤◌, List, [], ◌∷◌, map, length, Some, refl, sym, subst as transport, arith}
use Rattle.lp_calculus.specs.Types.{Ty}
use Rattle.lp_calculus.specs.Term.{Term, Atom, index, atom, abs, app, constant, integer, text, eigen, logic, param}
use Rattle.lp_calculus.specs.Closed.{AllAtoms}
use Rattle.lp_calculus.specs.Convert.{done}
use Rattle.lp_calculus.specs.Fill.{Within}
use Rattle.lp_calculus.proofs.Fills.{within_more}
use Rattle.lp_calculus.proofs.Steps.{within_reduces}
use Rattle.lp_lemmas.specs.Each.{EachOf}
use Rattle.lp_model.specs.Unify.{unit_limit}
use Rattle.lp_standard.specs.Schemes.{IsStandard}
use Rattle.lp_model.specs.Flat.{Goals, Clause, instantiate_goals}
use Rattle.lp_model.specs.Flatten.{ClauseFormula, flatten_query}
use Rattle.lp_model.specs.Index.{instantiate}
use Rattle.lp_model.specs.Pair.{closed}
use Rattle.lp_model.specs.Skeleton.{View, Gives, Opens, Parts, Takes, Cuts, Denies, Halts, Lacks, run}
use Rattle.lp_model.specs.Branch.{Answer, Task, nothing_written}
use Rattle.lp_model.specs.Answers.{Query}
use Rattle.lp_model.specs.Proofs.{Declared, AreFlattened, no_leaf}
use Rattle.lp_model.specs.Search.{look, start}
use Rattle.lp_proof_laws.proofs.Uniform.Settings.{without_leaves}
use Rattle.lp_search_laws.specs.Begun.{first_branch, first_typing}
use Rattle.lp_search_laws.specs.Branches.{TypedTask, going, trying, stopping, lacking, task_of, IsOk, IsProgramTyped}
use Rattle.lp_search_laws.specs.Started.{IsTypedQuery, IsTypedSentence}
use Rattle.lp_search_laws.specs.Views.{IsRightView}
use Rattle.lp_search_laws.proofs.Begins.{fine, start_typed, program_typed}
use Rattle.lp_search_laws.proofs.KeptLooks.{IsKeptView, kept_look}
use Rattle.lp_search_laws.proofs.KeptTasks.{IsKeptTask, IsKeptBranch, instantiated, goals_entries}
use Rattle.lp_search_laws.proofs.LooksRight.{each_look}
use Rattle.lp_search_laws.proofs.ClosedTerms.{closed_atom}
use Rattle.lp_search_laws.proofs.RunsKeep.{Any}
use Rattle.lp_search_laws.proofs.Stack.AllFine.{LeavesFine, all_fine}
use Rattle.lp_search_laws.proofs.TypesOver.{each_more}
use Rattle.lp_pattern_laws.specs.Patterns.{of_atom}
use Rattle.lp_pattern_laws.specs.Binders.{Binder, IsAtLevel}
use Rattle.lp_pattern_laws.specs.Parts.{existentials}
use Rattle.lp_pattern_laws.specs.Goals.{StaysPattern, IsPatternClause, IsTextAtom, IsWrittenText, IsTextClause, AreTextGoals}
use Rattle.lp_pattern_laws.specs.Tasks.{IsPatternBranch}
use Rattle.lp_pattern_laws.proofs.Carried.{carries_values}
use Rattle.lp_pattern_laws.proofs.Comes.{of_term}
use Rattle.lp_pattern_laws.proofs.GoalLists.{clause_more, goals_more, goals_entries as pattern_entries}
use Rattle.lp_pattern_laws.proofs.GoalLooks.{branch_look}
use Rattle.lp_pattern_laws.proofs.GoalsMapped.{open_kept}
use Rattle.lp_pattern_laws.proofs.NoSigma.{Plain, others, goals_plain, program_plain}
use Rattle.lp_pattern_laws.proofs.Opened.{text_opens}
use Rattle.lp_pattern_laws.proofs.PatternTasks.{IsPatternTask, HasNoPair}
use Rattle.lp_pattern_laws.proofs.Staying.{opened_leads}
use Rattle.lp_pattern_laws.proofs.Tried.{none_universal}
use Rattle.lp_pattern_laws.proofs.TryLooks.{try_look}

-- text stands at the outermost level
text_level : (a : Atom) → IsTextAtom a → IsAtLevel 0 a
text_level (constant c ts) h = tt
text_level (integer z) h = tt
text_level (text s) h = tt
text_level (eigen k) h = absurd h
text_level (logic x l) h = absurd h
text_level (param k T) h = tt

written_stays : (Γ : List Binder) (t : Term) → IsWrittenText Γ t → StaysPattern 0 Γ t
written_stays Γ t h = record {
  within = within_more IsTextAtom (IsAtLevel 0) (length Γ) (length Γ) text_level (omega arith) t h.within;
  opens = λ c v σ o. record {
    form = instantiate σ (closed c h.form);
    reduces = opened_leads c c (λ a. done (closed_atom c a)) σ σ (λ i. done (σ i)) t h.form h.reduces;
    pattern = text_opens 0 Γ h.form (h.pattern, all_level (length Γ) h.form (within_reduces IsTextAtom (length Γ) h.reduces h.within)) c v σ o;
  };
}
  where
    all_level : (n : ℕ) (s : Term) → Within IsTextAtom n s → AllAtoms (IsAtLevel 0) s
    all_level n (index i) w = tt
    all_level n (atom a) w = text_level a w
    all_level n (abs b) w = all_level (suc n) b w
    all_level n (app x y) w = (all_level n x w.0, all_level n y w.1)

texts_stay : (P : List Clause) → EachOf IsTextClause P → EachOf (IsPatternClause 0 []) P
texts_stay P h = each_more IsTextClause (IsPatternClause 0 []) (λ c w. clause_more IsWrittenText (StaysPattern 0) written_stays [] c w) P h

-- nothing is asked of the types of the query
abbrev AnyTypes : List Ty → Type 0
AnyTypes Ts = Unit {0}

abbrev IsOthers : Task → Type 0
IsOthers T = IsKeptTask Plain others Any AnyTypes T

module _ (n : ℕ) (d : Declared) (std : IsStandard d) (P : List Clause) (program : EachOf (IsProgramTyped d) P) (texts : EachOf IsTextClause P) (q : Query) where
  pattern_look : (height : ℕ) (x : TypedTask) → IsOk n d P q x → IsPatternTask (task_of x) → IsOthers (task_of x) → LeavesFine IsPatternTask HasNoPair (look unit_limit n P height (task_of x))
  pattern_look height (going y b) h p k = branch_look n height d std P (texts_stay P texts) q y.answer b y.eigens b.goals h p.entries p.pairs k.entries
  pattern_look height (trying y c t e b mark) h p k = try_look n d std P program q y c t e b mark h p
  pattern_look height (stopping x T) h p k = tt
  pattern_look height (lacking T) h p k = tt

  -- a task of pattern text with its typing, where `sigma` stands in no atom
  record IsFine (T : Task) : Type 0 where
    typed : TypedTask
    is : task_of typed ≡ T
    ok : IsOk n d P q typed
    pattern : IsPatternTask T
    others_only : IsOthers T

  all_fine_here : (xs : List TypedTask) → EachOf (IsOk n d P q) xs → EachOf IsPatternTask (map task_of xs) → EachOf IsOthers (map task_of xs) → EachOf IsFine (map task_of xs)
  all_fine_here [] h p k = tt
  all_fine_here (x ∷ xs) h p k = (record { typed = x; is = refl; ok = h.0; pattern = p.0; others_only = k.0 }, all_fine_here xs h.1 p.1 k.1)

  each_fine : (xs : List TypedTask) (ts : List Task) → map task_of xs ≡ ts → EachOf (IsOk n d P q) xs → EachOf IsPatternTask ts → EachOf IsOthers ts → EachOf IsFine ts
  each_fine xs ts e h p k = transport (EachOf IsFine) e (all_fine_here xs h (transport (EachOf IsPatternTask) (sym e) p) (transport (EachOf IsOthers) (sym e) k))

  fine_view : (x : TypedTask) (v : View Task Answer) → IsRightView no_leaf n d P q x v → LeavesFine IsPatternTask HasNoPair v → IsKeptView Plain
      others Any AnyTypes (λ bs s ts h. tt) v → LeavesFine IsFine HasNoPair v
  fine_view x (Gives a) r p k = p
  fine_view x (Opens ts) r p k = each_fine r.typed ts r.is r.ok p k
  fine_view x (Parts ts) r p k = each_fine r.typed ts r.is r.ok p k
  fine_view x (Takes name ts) r p k = each_fine r.typed ts r.is r.ok p k
  fine_view x (Cuts m ts) r p k = each_fine r.typed ts r.is r.ok p k
  fine_view x (Denies t f ts) r p k = each_fine (going r.rest_typing r.rest ∷ []) ts (sym r.goes_on) (r.after, tt) p k.1
  fine_view x (Halts e) r p k = tt
  fine_view x Lacks r p k = tt

  fine_look : (height : ℕ) (x : TypedTask) → IsOk n d P q x → IsPatternTask (task_of x) → IsOthers (task_of x) → LeavesFine IsFine HasNoPair (look unit_limit n P height (task_of x))
  fine_look height x h p k =
      fine_view x (look unit_limit n P height (task_of x)) (each_look n d (without_leaves d std) P program q height x h) (pattern_look height x h p k)
      (kept_look Plain others Any AnyTypes (λ bs s ts h'. tt) unit_limit n P (program_plain d P program texts) height (task_of x) k)

  stays_fine : (height : ℕ) (T : Task) → IsFine T → LeavesFine IsFine HasNoPair (look unit_limit n P height T)
  stays_fine height T h =
      transport (λ U. LeavesFine IsFine HasNoPair (look unit_limit n P height U)) h.is
      (fine_look height h.typed h.ok (transport IsPatternTask (sym h.is) h.pattern) (transport IsOthers (sym h.is) h.others_only))

module _ (d : Declared) (std : IsStandard d) (l : ℕ) (F : List ClauseFormula) (P : List Clause) (s : EachOf (IsTypedSentence d) F)
    (x : AreFlattened d F P) (q : Query) (gs : Goals) (t : IsTypedQuery d q) (e : flatten_query l d q.formula ≡ Some gs)
    (texts : EachOf IsTextClause P) (text : AreTextGoals (existentials q.vars) gs) where
  abbrev put_in : ℕ → Term
  put_in i = atom (logic (length q.vars - suc i) 0)

  first_pattern : IsPatternBranch (first_branch q.type_vars (length q.vars) gs)
  first_pattern =
      let less : 0 ≤ 0 = omega arith in
      let c = carries_values 0 (existentials q.vars) (none_universal q.vars) put_in (λ i. (of_term (of_atom (logic (length q.vars - suc i) 0)), less)) in
      record {
        entries = pattern_entries (instantiate_goals put_in gs) [] nothing_written 0 0
            (open_kept 0 0 less (existentials q.vars) [] put_in c gs (goals_more IsWrittenText (StaysPattern 0) written_stays (existentials q.vars) gs
            text)) tt;
        pairs = refl;
      }

  first_others : IsKeptBranch Plain others Any AnyTypes (first_branch q.type_vars (length q.vars) gs)
  first_others = record {
    entries = goals_entries Plain others Any (instantiate_goals put_in gs) [] nothing_written 0 0
        (instantiated Plain others Any put_in (λ i. tt) gs (goals_plain q.type_vars Any (λ i b. tt) [] (existentials q.vars) gs (fine d std l q gs t e).form text)) tt;
    pairs = tt;
    fresh = λ i b. tt;
    types = tt;
  }

  pub no_pairs : (n j m steps answers : ℕ) → EachOf HasNoPair (run (look unit_limit n P) j m (start q.type_vars (length q.vars) gs steps answers)).answers
  no_pairs n j m steps answers =
      let program = program_typed d std F P s x in
      all_fine (look unit_limit n P) j (IsFine n d std P program texts q) HasNoPair (stays_fine n d std P program texts q) m (start q.type_vars (length q.vars) gs steps answers) (
        record {
          typed = going (first_typing q gs) (first_branch q.type_vars (length q.vars) gs);
          is = refl;
          ok = (start_typed d std l q gs t e n steps answers).1;
          pattern = first_pattern;
          others_only = first_others;
        },
        tt,
      )
