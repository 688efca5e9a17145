-- Other eigenconstants and other levels in goals and clauses, entries and branches; what is put into goals goes past them.
use Rattle.std.proofs.Common.{◌≡◌, ℕ, zero, suc, ◌+◌, List, [], ◌∷◌, map, ◌∙◌, refl, sym, ap, Bool, true, false, if◌then◌else◌}
use Rattle.std.specs.Prelude.{nat_lt}
use Rattle.lp_calculus.specs.Types.{Ty, instance}
use Rattle.lp_calculus.specs.Term.{Term, Atom, index, atom, abs, app, raised, replace, shift}
use Rattle.lp_calculus.specs.Fill.{Binding, fill, put, put_all}
use Rattle.lp_calculus.specs.Instance.{instance_term}
use Rattle.lp_calculus.proofs.Eta.{app_same}
use Rattle.lp_model.specs.Types.{TypeBinding, one_type}
use Rattle.lp_model.specs.Index.{instantiate, lifted}
use Rattle.lp_model.specs.Flat.{Goal, Atomic, Cut, Either, Exists, Forall, Assume, Not, Written, Goals, no_goals, goals, Clause, clause, Clauses, no_clauses, clauses, goal_list, clause_list, under_all, map_written, map_goal, map_goals, map_clause, map_clauses, same_type, put_goal, put_clause, type_goal, type_goals, type_clause, instantiate_goals}
use Rattle.lp_model.specs.Branch.{Entry, Branch, Answer, Task, Go, Try, Stop, Lack, put_entry, put_entries, type_entry, type_entries, entries, both_written}
use Rattle.lp_proof_laws.proofs.Flattened.TypedForms.{goals_same, clauses_same, clause_same, either_same, assume_same, denied_same, written_same}
use Rattle.std.proofs.lemmas.List.{map-append}
use Rattle.lp_search_laws.proofs.Moved.Terms.{Moving, moved, moved_atom, moved_all, moved_binding, put_moved, instance_moved}
use Rattle.lp_search_laws.proofs.Moved.Rules.{moved_pair}

-- shifts and terms for indices go past a change of atoms
abbrev pub mapped : (Atom → Atom) → Term → Term
mapped g t = fill (λ a. atom (g a)) t

mapped_raised : (g : Atom → Atom) (by d i : ℕ) → mapped g (raised by d i) ≡ raised by d i
mapped_raised g by d i = go (nat_lt i d)
  where
    go : (b : Bool) → mapped g (if b then index i else index (i + by)) ≡ (if b then index i else index (i + by))
    go true = refl
    go false = refl

mapped_shift : (g : Atom → Atom) (by d : ℕ) (t : Term) → mapped g (replace (raised by) d t) ≡ replace (raised by) d (mapped g t)
mapped_shift g by d (index i) = mapped_raised g by d i
mapped_shift g by d (atom a) = refl
mapped_shift g by d (abs b) = ap abs (mapped_shift g by (suc d) b)
mapped_shift g by d (app t u) = app_same (mapped_shift g by d t) (mapped_shift g by d u)

abbrev pub AreMapped : (Atom → Atom) → (ℕ → Term) → (ℕ → Term) → Type 0
AreMapped g σ τ = (i : ℕ) → τ i ≡ mapped g (σ i)

pub lifted_mapped : (g : Atom → Atom) (σ τ : ℕ → Term) → AreMapped g σ τ → AreMapped g (lifted σ) (lifted τ)
lifted_mapped g σ τ h zero = refl
lifted_mapped g σ τ h (suc i) = ap (shift 0 1) (h i) ∙ sym (mapped_shift g 1 0 (σ i))

pub instantiate_mapped : (g : Atom → Atom) (σ τ : ℕ → Term) → AreMapped g σ τ → (t : Term) → instantiate τ (mapped g t) ≡ mapped g (instantiate σ t)
instantiate_mapped g σ τ h (index i) = h i
instantiate_mapped g σ τ h (atom a) = refl
instantiate_mapped g σ τ h (abs b) = ap abs (instantiate_mapped g (lifted σ) (lifted τ) (lifted_mapped g σ τ h) b)
instantiate_mapped g σ τ h (app t u) = app_same (instantiate_mapped g σ τ h t) (instantiate_mapped g σ τ h u)

pub moved_shift : (m : Moving) (from by : ℕ) (t : Term) → moved m (shift from by t) ≡ shift from by (moved m t)
moved_shift m from by t = mapped_shift (moved_atom m) by from t

abbrev pub AreMoved : Moving → (ℕ → Term) → (ℕ → Term) → Type 0
AreMoved m σ τ = (i : ℕ) → τ i ≡ moved m (σ i)

pub lifted_moved : (m : Moving) (σ τ : ℕ → Term) → AreMoved m σ τ → AreMoved m (lifted σ) (lifted τ)
lifted_moved m σ τ h = lifted_mapped (moved_atom m) σ τ h

pub instantiate_moved : (m : Moving) (σ τ : ℕ → Term) → AreMoved m σ τ → (t : Term) → instantiate τ (moved m t) ≡ moved m (instantiate σ t)
instantiate_moved m σ τ h t = instantiate_mapped (moved_atom m) σ τ h t

-- goals and clauses
abbrev pub moved_goal_at : Moving → ℕ → Goal → Goal
moved_goal_at m u g = map_goal (λ (v : ℕ). v) (λ v t. moved m t) same_type u g

abbrev pub moved_goals_at : Moving → ℕ → Goals → Goals
moved_goals_at m u gs = map_goals (λ (v : ℕ). v) (λ v t. moved m t) same_type u gs

abbrev pub moved_clause_at : Moving → ℕ → Clause → Clause
moved_clause_at m u c = map_clause (λ (v : ℕ). v) (λ v t. moved m t) same_type u c

abbrev pub moved_clauses_at : Moving → ℕ → Clauses → Clauses
moved_clauses_at m u cs = map_clauses (λ (v : ℕ). v) (λ v t. moved m t) same_type u cs

abbrev pub moved_goal : Moving → Goal → Goal
moved_goal m g = moved_goal_at m zero g

abbrev pub moved_goals : Moving → Goals → Goals
moved_goals m gs = moved_goals_at m zero gs

abbrev pub moved_clause : Moving → Clause → Clause
moved_clause m c = moved_clause_at m zero c

abbrev pub moved_clauses : Moving → Clauses → Clauses
moved_clauses m cs = moved_clauses_at m zero cs

abbrev pub moved_written : Moving → Written → Written
moved_written m w = map_written (moved m) same_type w

pub goals_listed : (m : Moving) (gs : Goals) → goal_list (moved_goals m gs) ≡ map (moved_goal m) (goal_list gs)
goals_listed m no_goals = refl
goals_listed m (goals g gs) = ap (λ z. moved_goal m g ∷ z) (goals_listed m gs)

pub clauses_listed : (m : Moving) (cs : Clauses) → clause_list (moved_clauses m cs) ≡ map (moved_clause m) (clause_list cs)
clauses_listed m no_clauses = refl
clauses_listed m (clauses c cs) = ap (λ z. moved_clause m c ∷ z) (clauses_listed m cs)

-- what changes terms, before or after
module _ {A B : Type 0} (m : Moving) (ua : A → A) (ta : A → Term → Term) (ub : B → B) (tb : B → Term → Term) (ty : Ty → Ty) (R : A → B → Type 0) (under : (a : A) (b : B) → R a b → R (ua a) (ub b)) (cross : (a : A) (b : B) → R a b → (t : Term) → tb b (moved m t) ≡ moved m (ta a t)) where
  types_cross : (vs : List Ty) → map ty (map same_type vs) ≡ map same_type (map ty vs)
  types_cross [] = refl
  types_cross (v ∷ vs) = ap (λ z. ty v ∷ z) (types_cross vs)

  terms_cross : (a : A) (b : B) → R a b → (ts : List Term) → map (tb b) (moved_all m ts) ≡ moved_all m (map (ta a) ts)
  terms_cross a b r [] = refl
  terms_cross a b r (t ∷ ts) = λ i. cross a b r t i ∷ terms_cross a b r ts i

  below : (vs : List Ty) (a : A) (b : B) → R a b → R (under_all ua vs a) (under_all ub (map same_type vs) b)
  below [] a b r = r
  below (v ∷ vs) a b r = under (under_all ua vs a) (under_all ub (map same_type vs) b) (below vs a b r)

  mutual
    pub goal_cross : (a : A) (b : B) (u v : ℕ) → R a b → (g : Goal) → map_goal ub tb ty b (moved_goal_at m u g) ≡ moved_goal_at m v (map_goal ua ta ty a g)
    goal_cross a b u v r (Atomic t) = ap Atomic (cross a b r t)
    goal_cross a b u v r Cut = refl
    goal_cross a b u v r (Either x z) = either_same (goals_cross a b u v r x) (goals_cross a b u v r z)
    goal_cross a b u v r (Exists T x) = ap (Exists (ty T)) (goals_cross (ua a) (ub b) u v (under a b r) x)
    goal_cross a b u v r (Forall T x) = ap (Forall (ty T)) (goals_cross (ua a) (ub b) u v (under a b r) x)
    goal_cross a b u v r (Assume w cs x) = assume_same (written_same (terms_cross a b r w.terms) (types_cross w.types)) (clauses_cross a b u v r cs) (goals_cross a b u v r x)
    goal_cross a b u v r (Not w x) = denied_same (written_same (terms_cross a b r w.terms) (types_cross w.types)) (goals_cross a b u v r x)

    pub goals_cross : (a : A) (b : B) (u v : ℕ) → R a b → (gs : Goals) → map_goals ub tb ty b (moved_goals_at m u gs) ≡ moved_goals_at m v (map_goals ua ta ty a gs)
    goals_cross a b u v r no_goals = refl
    goals_cross a b u v r (goals g gs) = goals_same (goal_cross a b u v r g) (goals_cross a b u v r gs)

    pub clause_cross : (a : A) (b : B) (u v : ℕ) → R a b → (k : Clause) → map_clause ub tb ty b (moved_clause_at m u k) ≡ moved_clause_at m v (map_clause ua ta ty a k)
    clause_cross a b u v r (clause n vs h x) =
        clause_same n (types_cross vs) (cross (under_all ua vs a) (under_all ub (map same_type vs) b) (below vs a b r) h) (goals_cross (under_all ua vs a) (under_all ub (map same_type vs) b) (under_all (λ (w : ℕ). w) vs u) (under_all (λ (w : ℕ). w) (map ty vs) v) (below vs a b r) x)

    pub clauses_cross : (a : A) (b : B) (u v : ℕ) → R a b → (ks : Clauses) → map_clauses ub tb ty b (moved_clauses_at m u ks) ≡ moved_clauses_at m v (map_clauses ua ta ty a ks)
    clauses_cross a b u v r no_clauses = refl
    clauses_cross a b u v r (clauses k ks) = clauses_same (clause_cross a b u v r k) (clauses_cross a b u v r ks)

abbrev Any : ℕ → ℕ → Type 0
Any u v = Unit {0}

pub goals_instantiated : (m : Moving) (u : ℕ) (σ τ : ℕ → Term) → AreMoved m σ τ → (gs : Goals) → instantiate_goals τ (moved_goals_at m u gs) ≡ moved_goals m (instantiate_goals σ gs)
goals_instantiated m u σ τ h gs = goals_cross m lifted instantiate lifted instantiate same_type (AreMoved m) (lifted_moved m) (instantiate_moved m) σ τ u zero h gs

pub goals_typed : (m : Moving) (u v : ℕ) (θ : ℕ → Ty) (gs : Goals) → type_goals θ (moved_goals_at m u gs) ≡ moved_goals_at m v (type_goals θ gs)
goals_typed m u v θ gs = goals_cross m (λ (w : ℕ). w) (λ w t. instance_term θ t) (λ (w : ℕ). w) (λ w t. instance_term θ t) (instance θ) Any (λ a b r. tt) (λ a b r t. instance_moved m θ t) zero zero u v tt gs

goal_typed : (m : Moving) (θ : ℕ → Ty) (g : Goal) → type_goal θ (moved_goal m g) ≡ moved_goal m (type_goal θ g)
goal_typed m θ g = goal_cross m (λ (w : ℕ). w) (λ w t. instance_term θ t) (λ (w : ℕ). w) (λ w t. instance_term θ t) (instance θ) Any (λ a b r. tt) (λ a b r t. instance_moved m θ t) zero zero zero zero tt g

clause_typed : (m : Moving) (θ : ℕ → Ty) (c : Clause) → type_clause θ (moved_clause m c) ≡ moved_clause m (type_clause θ c)
clause_typed m θ c = clause_cross m (λ (w : ℕ). w) (λ w t. instance_term θ t) (λ (w : ℕ). w) (λ w t. instance_term θ t) (instance θ) Any (λ a b r. tt) (λ a b r t. instance_moved m θ t) zero zero zero zero tt c

goal_put : (m : Moving) (b : Binding) (g : Goal) → put_goal (moved_binding m b) (moved_goal m g) ≡ moved_goal m (put_goal b g)
goal_put m b g = goal_cross m (λ (w : ℕ). w) (λ w t. put b t) (λ (w : ℕ). w) (λ w t. put (moved_binding m b) t) same_type Any (λ a c r. tt) (λ a c r t. put_moved m b t) zero zero zero zero tt g

clause_put : (m : Moving) (b : Binding) (c : Clause) → put_clause (moved_binding m b) (moved_clause m c) ≡ moved_clause m (put_clause b c)
clause_put m b c = clause_cross m (λ (w : ℕ). w) (λ w t. put b t) (λ (w : ℕ). w) (λ w t. put (moved_binding m b) t) same_type Any (λ a d r. tt) (λ a d r t. put_moved m b t) zero zero zero zero tt c

-- entries
abbrev pub moved_entry : Moving → Entry → Entry
moved_entry m e = record { goal = moved_goal m e.goal; assumed = map (moved_clause m) e.assumed; written = moved_written m e.written; level = m.level e.level; mark = e.mark }

pub over_list : {A B : Type 0} (f g : A → B) (k : B → B) (h : A → A) → ((a : A) → g (h a) ≡ k (f a)) → (xs : List A) → map g (map h xs) ≡ map k (map f xs)
over_list f g k h e [] = refl
over_list f g k h e (x ∷ xs) = λ i. e x i ∷ over_list f g k h e xs i

types_past : (f : Ty → Ty) (Ts : List Ty) → map f (map same_type Ts) ≡ map same_type (map f Ts)
types_past f [] = refl
types_past f (T ∷ Ts) = ap (λ z. f T ∷ z) (types_past f Ts)

entry_put : (m : Moving) (b : Binding) (e : Entry) → put_entry (moved_binding m b) (moved_entry m e) ≡ moved_entry m (put_entry b e)
entry_put m b e = λ i. record {
  goal = goal_put m b e.goal i;
  assumed = over_list (put_clause b) (put_clause (moved_binding m b)) (moved_clause m) (moved_clause m) (clause_put m b) e.assumed i;
  written = record { terms = over_list (put b) (put (moved_binding m b)) (moved m) (moved m) (put_moved m b) e.written.terms i; types = types_past (λ T. T) e.written.types i };
  level = m.level e.level;
  mark = e.mark;
}

entry_typed : (m : Moving) (b : TypeBinding) (e : Entry) → type_entry b (moved_entry m e) ≡ moved_entry m (type_entry b e)
entry_typed m b e = λ i. record {
  goal = goal_typed m (one_type b) e.goal i;
  assumed = over_list (type_clause (one_type b)) (type_clause (one_type b)) (moved_clause m) (moved_clause m) (clause_typed m (one_type b)) e.assumed i;
  written = record { terms = over_list (instance_term (one_type b)) (instance_term (one_type b)) (moved m) (moved m) (instance_moved m (one_type b)) e.written.terms i; types = types_past (instance (one_type b)) e.written.types i };
  level = m.level e.level;
  mark = e.mark;
}

abbrev pub moved_entries : Moving → List Entry → List Entry
moved_entries m es = map (moved_entry m) es

pub entries_put : (m : Moving) (bs : List Binding) (es : List Entry) → put_entries (map (moved_binding m) bs) (moved_entries m es) ≡ moved_entries m (put_entries bs es)
entries_put m [] es = refl
entries_put m (b ∷ bs) es = ap (put_entries (map (moved_binding m) bs)) (over_list (put_entry b) (put_entry (moved_binding m b)) (moved_entry m) (moved_entry m) (entry_put m b) es) ∙ entries_put m bs (map (put_entry b) es)

pub entries_typed : (m : Moving) (bs : List TypeBinding) (es : List Entry) → type_entries bs (moved_entries m es) ≡ moved_entries m (type_entries bs es)
entries_typed m [] es = refl
entries_typed m (b ∷ bs) es = ap (type_entries bs) (over_list (type_entry b) (type_entry b) (moved_entry m) (moved_entry m) (entry_typed m b) es) ∙ entries_typed m bs (map (type_entry b) es)

pub entries_listed : (m : Moving) (gs : List Goal) (A : List Clause) (w : Written) (l mark : ℕ) → entries (map (moved_goal m) gs) (map (moved_clause m) A) (moved_written m w) (m.level l) mark ≡ moved_entries m (entries gs A w l mark)
entries_listed m [] A w l mark = refl
entries_listed m (g ∷ gs) A w l mark = ap (λ z. record { goal = moved_goal m g; assumed = map (moved_clause m) A; written = moved_written m w; level = m.level l; mark = mark } ∷ z) (entries_listed m gs A w l mark)

pub entries_moved : (m : Moving) (gs : Goals) (A : List Clause) (w : Written) (l mark : ℕ) → entries (goal_list (moved_goals m gs)) (map (moved_clause m) A) (moved_written m w) (m.level l) mark ≡ moved_entries m (entries (goal_list gs) A w l mark)
entries_moved m gs A w l mark = ap (λ z. entries z (map (moved_clause m) A) (moved_written m w) (m.level l) mark) (goals_listed m gs) ∙ entries_listed m (goal_list gs) A w l mark

pub both_written_moved : (m : Moving) (v w : Written) → both_written (moved_written m v) (moved_written m w) ≡ moved_written m (both_written v w)
both_written_moved m v w = λ i. record { terms = sym (map-append (moved m) v.terms w.terms) i; types = sym (map-append same_type v.types w.types) i }

-- branches and tasks
abbrev pub moved_branch : Moving → Branch → Branch
moved_branch m b = record { next = b.next; next_type = b.next_type; goals = moved_entries m b.goals; types = b.types; values = moved_all m b.values; pairs = map (moved_pair m) b.pairs }

abbrev pub moved_answer : Moving → Answer → Answer
moved_answer m a = record { next = a.next; next_type = a.next_type; types = a.types; values = moved_all m a.values; pairs = map (moved_pair m) a.pairs }

abbrev pub moved_task : Moving → Task → Task
moved_task m (Go b) = Go (moved_branch m b)
moved_task m (Try c t e b mark) = Try (moved_clause m c) (moved m t) (moved_entry m e) (moved_branch m b) mark
moved_task m (Stop e) = Stop e
moved_task m Lack = Lack

pub put_all_moved : (m : Moving) (bs : List Binding) (t : Term) → put_all (map (moved_binding m) bs) (moved m t) ≡ moved m (put_all bs t)
put_all_moved m [] t = refl
put_all_moved m (b ∷ bs) t = ap (put_all (map (moved_binding m) bs)) (put_moved m b t) ∙ put_all_moved m bs (put b t)
