-- What is written in goals and clauses keeps standing in them with other eigenconstants and other levels, which their source has too.
use Rattle.std.proofs.Common.{◌≡◌, ℕ, zero, suc, List, ◌++◌, map, ◌∙◌, refl, sym, ap}
use Rattle.lp_lemmas.specs.Each.{EachOf}
use Rattle.lp_lemmas.proofs.Each.{each_map}
use Rattle.lp_calculus.specs.Types.{Ty, instance}
use Rattle.lp_calculus.specs.Term.{Term, Atom, index, atom, abs, app, constant, integer, text, eigen, logic, param}
use Rattle.lp_calculus.specs.Closed.{AllAtoms}
use Rattle.lp_calculus.specs.Instance.{instance_term}
use Rattle.lp_model.specs.Index.{instantiate, lifted}
use Rattle.lp_model.specs.Flat.{Goal, Atomic, Cut, Either, Exists, Forall, Assume, Not, Written, Goals, no_goals, goals, clause, Clauses, no_clauses, clauses, under_all, same_type, loose_in, type_variables_in, collect_goal, collect_goals, collect_clauses}
use Rattle.lp_proof_laws.specs.Terms.{IsTermOf, AreTermsOf, AreClausesOf}
use Rattle.lp_proof_laws.specs.Filled.{IsSourceAtom, filled_term}
use Rattle.lp_search_laws.specs.Written.{IsOrigin, IsClauseOrigin, IsWrittenEntry}
use Rattle.lp_search_laws.proofs.Formulas.{goals_inside, clause_inside}
use Rattle.lp_search_laws.proofs.PlainTypes.{fill_plain}
use Rattle.lp_search_laws.proofs.Stands.{part_fill}
use Rattle.lp_search_laws.proofs.Written.{Goes, goal_mapped, place_mapped, both_mapped}
use Rattle.lp_model.specs.Branch.{Entry}
use Rattle.lp_search_laws.proofs.Moved.Terms.{Moving, moved, moved_atom, moved_by, instance_moved}
use Rattle.lp_search_laws.proofs.Moved.Goals.{AreMoved, lifted_moved, instantiate_moved, moved_goal_at, moved_goals_at, moved_clauses_at, moved_written, moved_entry, moved_entries, goals_cross, clauses_cross}
use Rattle.lp_search_laws.proofs.Moved.Candidates.{same_types}
use Rattle.lp_search_laws.proofs.Moved.Typed.{moves_inside}

-- the source
source_atom : (m : Moving) (a : Atom) → IsSourceAtom a → IsSourceAtom (moved_atom m a)
source_atom m (constant c ts) w = tt
source_atom m (integer z) w = tt
source_atom m (text s) w = tt
source_atom m (eigen k) w = tt
source_atom m (logic x l) w = absurd w
source_atom m (param k T) w = tt

abbrev Source : Term → Type 0
Source t = AllAtoms IsSourceAtom t

term_source : (m : Moving) (t : Term) → Source t → Source (moved m t)
term_source m t w = fill_plain IsSourceAtom IsSourceAtom (moved_by m) (source_atom m) t w

mutual
  goal_source : (m : Moving) (u : ℕ) (g : Goal) → IsTermOf Source g → IsTermOf Source (moved_goal_at m u g)
  goal_source m u (Atomic t) w = term_source m t w
  goal_source m u Cut w = tt
  goal_source m u (Either x y) w = (goals_source m u x w.0, goals_source m u y w.1)
  goal_source m u (Exists T gs) w = goals_source m u gs w
  goal_source m u (Forall T gs) w = goals_source m u gs w
  goal_source m u (Assume v cs gs) w = (each_map Source Source (moved m) (term_source m) v.terms w.0, clauses_source m u cs w.1, goals_source m u gs w.2)
  goal_source m u (Not v gs) w = (each_map Source Source (moved m) (term_source m) v.terms w.0, goals_source m u gs w.1)

  goals_source : (m : Moving) (u : ℕ) (gs : Goals) → AreTermsOf Source gs → AreTermsOf Source (moved_goals_at m u gs)
  goals_source m u no_goals w = tt
  goals_source m u (goals g gs) w = (goal_source m u g w.0, goals_source m u gs w.1)

  clauses_source : (m : Moving) (u : ℕ) (cs : Clauses) → AreClausesOf Source cs → AreClausesOf Source (moved_clauses_at m u cs)
  clauses_source m u no_clauses w = tt
  clauses_source m u (clauses (clause n vs h b) cs) w = ((term_source m h w.0.0, goals_source m (under_all (λ (v : ℕ). v) vs u) b w.0.1), clauses_source m u cs w.1)

-- what is collected from it
module _ (m : Moving) (f : ℕ → Term → List ℕ) (same : (d : ℕ) (t : Term) → f d (moved m t) ≡ f d t) where
  both : {A : Type 0} {x y z w : List A} → x ≡ y → z ≡ w → x ++ z ≡ y ++ w
  both p q = λ i. p i ++ q i

  mutual
    goal_collected : (d u : ℕ) (g : Goal) → collect_goal f d (moved_goal_at m u g) ≡ collect_goal f d g
    goal_collected d u (Atomic t) = same d t
    goal_collected d u Cut = refl
    goal_collected d u (Either x y) = both (goals_collected d u x) (goals_collected d u y)
    goal_collected d u (Exists T gs) = goals_collected (suc d) u gs
    goal_collected d u (Forall T gs) = goals_collected (suc d) u gs
    goal_collected d u (Assume v cs gs) = both (clauses_collected d u cs) (goals_collected d u gs)
    goal_collected d u (Not v gs) = goals_collected d u gs

    goals_collected : (d u : ℕ) (gs : Goals) → collect_goals f d (moved_goals_at m u gs) ≡ collect_goals f d gs
    goals_collected d u no_goals = refl
    goals_collected d u (goals g gs) = both (goal_collected d u g) (goals_collected d u gs)

    clauses_collected : (d u : ℕ) (cs : Clauses) → collect_clauses f d (moved_clauses_at m u cs) ≡ collect_clauses f d cs
    clauses_collected d u no_clauses = refl
    clauses_collected d u (clauses (clause n vs h b) cs) =
        both (ap (λ e. f e (moved m h) ++ collect_goals f e (moved_goals_at m (under_all (λ (v : ℕ). v) vs u) b)) (ap (λ z. under_all suc z d) (same_types vs)) ∙ both (same (under_all suc vs d) h) (goals_collected (under_all suc vs d) (under_all (λ (v : ℕ). v) vs u) b)) (clauses_collected d u cs)

loose_moved : (m : Moving) (d : ℕ) (t : Term) → loose_in d (moved m t) ≡ loose_in d t
loose_moved m d (index i) = refl
loose_moved m d (atom a) = refl
loose_moved m d (abs b) = loose_moved m (suc d) b
loose_moved m d (app t u) = λ i. loose_moved m d t i ++ loose_moved m d u i

types_moved_in : (m : Moving) (d : ℕ) (t : Term) → type_variables_in (moved m t) ≡ type_variables_in t
types_moved_in m d (index i) = refl
types_moved_in m d (atom (constant c ts)) = refl
types_moved_in m d (atom (integer z)) = refl
types_moved_in m d (atom (text s)) = refl
types_moved_in m d (atom (eigen k)) = refl
types_moved_in m d (atom (logic x l)) = refl
types_moved_in m d (atom (param k T)) = refl
types_moved_in m d (abs b) = types_moved_in m d b
types_moved_in m d (app t u) = λ i. types_moved_in m d t i ++ types_moved_in m d u i

filled_moved : (m : Moving) (θ : ℕ → Ty) (σ τ : ℕ → Term) → AreMoved m σ τ → (t : Term) → filled_term θ τ (moved m t) ≡ moved m (filled_term θ σ t)
filled_moved m θ σ τ h t = ap (instantiate τ) (instance_moved m θ t) ∙ instantiate_moved m σ τ h (instance_term θ t)

origin_moved : (m : Moving) (e : ℕ) (w : Written) (gs : Goals) → IsOrigin w gs → IsOrigin (moved_written m w) (moved_goals_at m e gs)
origin_moved m e w gs o = record {
  types = o.types;
  terms = λ i. moved m (o.terms i);
  flat = moved_goals_at m e o.flat;
  source = goals_source m e o.flat o.source;
  is = ap (moved_goals_at m e) o.is ∙ sym (goals_cross m lifted (filled_term o.types) lifted (filled_term o.types) (instance o.types) (AreMoved m) (lifted_moved m) (filled_moved m o.types) o.terms (λ i. moved m (o.terms i)) e e (λ i. refl) o.flat);
  terms_written = ap (map (moved m)) o.terms_written ∙ both_mapped (moved m) o.terms (collect_goals loose_in 0 o.flat) ∙ ap (map (λ i. moved m (o.terms i))) (sym (goals_collected m loose_in (loose_moved m) 0 e o.flat));
  types_written = same_types w.types ∙ o.types_written ∙ ap (map o.types) (sym (goals_collected m (λ d t. type_variables_in t) (types_moved_in m) 0 e o.flat));
}

clause_origin_moved : (m : Moving) (e : ℕ) (w : Written) (cs : Clauses) → IsClauseOrigin w cs → IsClauseOrigin (moved_written m w) (moved_clauses_at m e cs)
clause_origin_moved m e w cs o = record {
  types = o.types;
  terms = λ i. moved m (o.terms i);
  flat = moved_clauses_at m e o.flat;
  source = clauses_source m e o.flat o.source;
  is = ap (moved_clauses_at m e) o.is ∙ sym (clauses_cross m lifted (filled_term o.types) lifted (filled_term o.types) (instance o.types) (AreMoved m) (lifted_moved m) (filled_moved m o.types) o.terms (λ i. moved m (o.terms i)) e e (λ i. refl) o.flat);
  terms_written = ap (map (moved m)) o.terms_written ∙ both_mapped (moved m) o.terms (collect_clauses loose_in 0 o.flat) ∙ ap (map (λ i. moved m (o.terms i))) (sym (clauses_collected m loose_in (loose_moved m) 0 e o.flat));
  types_written = same_types w.types ∙ o.types_written ∙ ap (map o.types) (sym (clauses_collected m (λ d t. type_variables_in t) (types_moved_in m) 0 e o.flat));
}

moves_go : (m : Moving) → Goes (λ (u : ℕ). u) (λ u t. moved m t) same_type
moves_go m = record {
  parts = λ e t u s. part_fill (moved_by m) t u s;
  in_goals = λ e gs. goals_inside (moved m) same_type (moves_inside m) e gs;
  in_clause = λ e c. clause_inside (moved m) same_type (moves_inside m) e c;
  origin = origin_moved m;
  clause_origin = clause_origin_moved m;
}

entry_written : (m : Moving) (e : Entry) → IsWrittenEntry e → IsWrittenEntry (moved_entry m e)
entry_written m e w = record {
  goal = goal_mapped (λ (u : ℕ). u) (λ u t. moved m t) same_type (moves_go m) zero e.goal w.goal;
  place = place_mapped (λ (u : ℕ). u) (λ u t. moved m t) same_type (moves_go m) zero e.assumed e.written w.place;
}

pub entries_written : (m : Moving) (es : List Entry) → EachOf IsWrittenEntry es → EachOf IsWrittenEntry (moved_entries m es)
entries_written m es w = each_map IsWrittenEntry IsWrittenEntry (moved_entry m) (entry_written m) es w
