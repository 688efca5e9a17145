-- The look at a task goes through with other eigenconstants and other levels, where the levels of its goals and pairs are those from which what comes next stays what comes next.
use Rattle.std.proofs.Common.{◌≡◌, ℕ, zero, suc, ◌+◌, ◌≤◌, List, [], ◌∷◌, ◌++◌, map, length, ◌∙◌, refl, sym, ap, Bool, true, false, nat_eq, if◌then◌else◌, Option, Some, None}
use Rattle.std.specs.Prelude.{option_map}
use Rattle.std.proofs.lemmas.List.{map-append, length-map}
use Rattle.lp_lemmas.specs.Each.{EachOf}
use Rattle.lp_lemmas.proofs.Each.{each_append, each_map}
use Rattle.lp_calculus.specs.Types.{Ty}
use Rattle.lp_calculus.specs.Term.{Term, index, atom, abs, app, substitute, constant, integer, text, eigen, logic, param}
use Rattle.lp_calculus.specs.Fill.{Binding, put_all}
use Rattle.lp_calculus.specs.Instance.{instance_term}
use Rattle.lp_calculus.specs.Spine.{head_of, arguments}
use Rattle.lp_standard.specs.Numbers as number
use Rattle.lp_standard.specs.Constants.{is_order}
use Rattle.lp_standard.specs.Connectives.{Connective, connective_of}
use Rattle.lp_standard.specs.Connectives as connective
use Rattle.lp_model.specs.Skeleton.{View, Opens, Parts, Takes, Denies, named, eigenconstant}
use Rattle.lp_model.specs.Look.{head_normal}
use Rattle.lp_model.specs.Index.{instantiate}
use Rattle.lp_model.specs.Types.{TypeBinding}
use Rattle.lp_model.specs.Pair.{Pair, put_types_in}
use Rattle.lp_model.specs.Rule.{type_pairs}
use Rattle.lp_model.specs.Unify.{Unified, Fail, Solution, Spent, State, solve}
use Rattle.lp_model.specs.Flat.{Goal, Atomic, Cut, Either, Exists, Forall, Assume, Not, Written, Goals, Clause, clause, Clauses, goal_list, clause_list, under_all, type_goals, instantiate_goals}
use Rattle.lp_model.specs.Values.{Outcome, Is, Faults, Number, Bytes, evaluate, term_of, ordered}
use Rattle.lp_model.specs.Branch.{Entry, Branch, Answer, Task, Go, Try, Stop, Lack, put_entry, put_entries, type_entry, type_entries, resume, entries, both_written}
use Rattle.lp_model.specs.Search.{with_goals, follow, equated, assigned, compared, candidates, goal_looked, renewed, slots_of, slotted, pairs_of, is_new, typed_try, try_clause, has_variables, has_no_pairs, tries, in_place, at_next_level, look_constant, look_atom, look_form, look_normal, opened, look_not, look_goal, look_branch, look}
use Rattle.lp_search_laws.proofs.Moved.Terms.{Moving, moved, moved_all, moved_binding, moved_substitute, moved_head_normal, instance_moved}
use Rattle.lp_search_laws.proofs.Moved.Heads.{types_moved}
use Rattle.lp_search_laws.proofs.Moved.Scans.{up_one}
use Rattle.lp_search_laws.proofs.Moved.Rules.{moved_pair, put_types_moved}
use Rattle.lp_search_laws.proofs.Moved.Solves.{AreAbove, moved_unified, IsAboveSolved, solve_moved, solve_above}
use Rattle.lp_search_laws.proofs.Moved.Goals.{AreMoved, moved_goal, moved_goals, moved_clause, moved_written, moved_entry, moved_entries, moved_branch, moved_answer, moved_task, over_list, put_all_moved, entries_put, entries_typed, entries_moved, both_written_moved, clauses_listed, goals_listed, entries_listed, moved_clauses, goals_instantiated, goals_typed}
use Rattle.lp_search_laws.proofs.Moved.Candidates.{head_of_moved, arguments_moved, moved_connective, connective_moved, evaluate_moved, moved_value, variables_moved, same_types, candidates_moved, goal_looked_moved, terms_for, pairs_moved}
use Rattle.lp_search_laws.proofs.Moved.Runs.{image, Leaves}

-- levels
abbrev pub AreHigh : ℕ → List Entry → Type 0
AreHigh n es = EachOf (λ e. n ≤ e.level) es

pub record IsHigh (n : ℕ) (b : Branch) : Type 0 where
  pub goals : AreHigh n b.goals
  pub pairs : AreAbove n b.pairs

abbrev pub IsHighTask : ℕ → Task → Type 0
IsHighTask n (Go b) = IsHigh n b
IsHighTask n (Try c t e b mark) = (n ≤ e.level) × IsHigh n b
IsHighTask n (Stop e) = Unit {0}
IsHighTask n Lack = Unit {0}

abbrev pub AreHighTasks : ℕ → List Task → Type 0
AreHighTasks n ts = EachOf (IsHighTask n) ts

abbrev pub moved_tasks : Moving → List Task → List Task
moved_tasks m ts = map (moved_task m) ts

abbrev pub moved_view : Moving → View Task Answer → View Task Answer
moved_view m v = image m.eigen (moved_task m) (moved_answer m) (IsHighTask m.from) v

-- behind a unification
resumed : (m : Moving) (b : Branch) (s : State) → ◌≡◌ {A = Task} (Go (resume (moved_branch m b)
    (record {
      pairs = map (moved_pair m) s.pairs;
      delayed = map (moved_pair m) s.delayed;
      bindings = map (moved_binding m) s.bindings;
      types = s.types;
      changed = s.changed;
      next = s.next;
      units = s.units;
    }))) (Go (moved_branch m (resume b s)))
resumed m b s = λ i. Go (record {
  next = s.next;
  next_type = b.next_type;
  goals = (ap (type_entries s.types) (entries_put m s.bindings b.goals) ∙ entries_typed m s.types (put_entries s.bindings b.goals)) i;
  types = (resume b s).types;
  values = over_list (λ t. put_types_in s.types (put_all s.bindings t)) (λ t. put_types_in s.types (put_all (map (moved_binding m) s.bindings) t)) (moved m) (moved m) (λ t. ap (put_types_in s.types) (put_all_moved m s.bindings t) ∙ put_types_moved m s.types (put_all s.bindings t)) b.values i;
  pairs = map (moved_pair m) s.delayed;
})

follow_moved : (m : Moving) (b : Branch) (o : Option Unified) → follow (moved_branch m b) (option_map (moved_unified m) o) ≡ moved_tasks m (follow b o)
follow_moved m b None = refl
follow_moved m b (Some Spent) = refl
follow_moved m b (Some Fail) = refl
follow_moved m b (Some (Solution s)) = ap (λ z. z ∷ []) (resumed m b s)

put_high : (n : ℕ) (bs : List Binding) (es : List Entry) → AreHigh n es → AreHigh n (put_entries bs es)
put_high n [] es h = h
put_high n (b ∷ bs) es h = put_high n bs (map (put_entry b) es) (each_map (λ e. n ≤ e.level) (λ e. n ≤ e.level) (put_entry b) (λ e l. l) es h)

typed_high : (n : ℕ) (bs : List TypeBinding) (es : List Entry) → AreHigh n es → AreHigh n (type_entries bs es)
typed_high n [] es h = h
typed_high n (b ∷ bs) es h = typed_high n bs (map (type_entry b) es) (each_map (λ e. n ≤ e.level) (λ e. n ≤ e.level) (type_entry b) (λ e l. l) es h)

follow_high : (n : ℕ) (b : Branch) (o : Option Unified) → AreHigh n b.goals → IsAboveSolved n o → AreHighTasks n (follow b o)
follow_high n b None h s = (tt, tt)
follow_high n b (Some Spent) h s = (tt, tt)
follow_high n b (Some Fail) h s = tt
follow_high n b (Some (Solution r)) h s = (record { goals = typed_high n r.types (put_entries r.bindings b.goals) (put_high n r.bindings b.goals h); pairs = s.delayed }, tt)

-- equality and arithmetic
equated_moved : (m : Moving) (u n l : ℕ) (s t : Term) (b : Branch) → m.from ≤ l → IsHigh m.from b → equated u n (m.level l) (moved m s) (moved m t) (moved_branch m b) ≡ moved_tasks m (equated u n l s t b)
equated_moved m u n l s t b h a = ap (follow (moved_branch m b)) (solve_moved m n u [] (record { left = s; right = t; level = l } ∷ []) b.pairs b.next (h, tt) a.pairs) ∙ follow_moved m b (solve n u [] (record { left = s; right = t; level = l } ∷ []) b.pairs b.next)

equated_high : (k u n l : ℕ) (s t : Term) (b : Branch) → k ≤ l → IsHigh k b → AreHighTasks k (equated u n l s t b)
equated_high k u n l s t b h a = follow_high k b (solve n u [] (record { left = s; right = t; level = l } ∷ []) b.pairs b.next) a.goals (solve_above k n u [] (record { left = s; right = t; level = l } ∷ []) b.pairs b.next (h, tt) a.pairs)

assigned_moved : (m : Moving) (u n l : ℕ) (t : Term) (b : Branch) → m.from ≤ l → IsHigh m.from b → (o : Option Outcome) → assigned u n (m.level l) (moved m t) (moved_branch m b) o ≡ moved_tasks m (assigned u n l t b o)
assigned_moved m u n l t b h a None = refl
assigned_moved m u n l t b h a (Some (Faults f)) = refl
assigned_moved m u n l t b h a (Some (Is v)) = ap (λ z. equated u n (m.level l) (moved m t) z (moved_branch m b)) (sym (moved_value m v)) ∙ equated_moved m u n l t (term_of v) b h a

assigned_high : (k u n l : ℕ) (t : Term) (b : Branch) → k ≤ l → IsHigh k b → (o : Option Outcome) → AreHighTasks k (assigned u n l t b o)
assigned_high k u n l t b h a None = (tt, tt)
assigned_high k u n l t b h a (Some (Faults f)) = (tt, tt)
assigned_high k u n l t b h a (Some (Is v)) = equated_high k u n l t (term_of v) b h a

if_go : (m : Moving) (x : Bool) (b : Branch) → (if x then Go (moved_branch m b) ∷ [] else []) ≡ moved_tasks m (if x then Go b ∷ [] else [])
if_go m true b = refl
if_go m false b = refl

compared_moved : (m : Moving) (c : ℕ) (b : Branch) (o p : Option Outcome) → compared c (moved_branch m b) o p ≡ moved_tasks m (compared c b o p)
compared_moved m c b None p = refl
compared_moved m c b (Some (Faults f)) p = refl
compared_moved m c b (Some (Is (Bytes s))) p = refl
compared_moved m c b (Some (Is (Number x))) None = refl
compared_moved m c b (Some (Is (Number x))) (Some (Faults f)) = refl
compared_moved m c b (Some (Is (Number x))) (Some (Is (Bytes s))) = refl
compared_moved m c b (Some (Is (Number x))) (Some (Is (Number y))) = if_go m (ordered c x y) b

compared_high : (k c : ℕ) (b : Branch) → IsHigh k b → (o p : Option Outcome) → AreHighTasks k (compared c b o p)
compared_high k c b h None p = (tt, tt)
compared_high k c b h (Some (Faults f)) p = (tt, tt)
compared_high k c b h (Some (Is (Bytes s))) p = (tt, tt)
compared_high k c b h (Some (Is (Number x))) None = (tt, tt)
compared_high k c b h (Some (Is (Number x))) (Some (Faults f)) = (tt, tt)
compared_high k c b h (Some (Is (Number x))) (Some (Is (Bytes s))) = (tt, tt)
compared_high k c b h (Some (Is (Number x))) (Some (Is (Number y))) = go (ordered c x y)
  where
    go : (x : Bool) → AreHighTasks k (if x then Go b ∷ [] else [])
    go true = (h, tt)
    go false = tt

-- candidates
tries_moved : (m : Moving) (P : List Clause) → map (moved_clause m) P ≡ P → (e : Entry) (b : Branch) (mark : ℕ) (o : Option Term) → tries P (moved_entry m e) (moved_branch m b) mark (option_map (moved m) o) ≡ moved_tasks m (tries P e b mark o)
tries_moved m P p e b mark None = refl
tries_moved m P p e b mark (Some t) =
    ap (map (λ c. Try c (moved m t) (moved_entry m e) (moved_branch m b) mark)) (candidates_moved m P e.assumed p t) ∙
    over_list (λ c. Try c t e b mark) (λ c. Try c (moved m t) (moved_entry m e) (moved_branch m b) mark) (moved_task m) (moved_clause m) (λ c. refl) (candidates P e.assumed t)

tries_high : (k : ℕ) (P : List Clause) (e : Entry) (b : Branch) (mark : ℕ) → k ≤ e.level → IsHigh k b → (o : Option Term) → AreHighTasks k (tries P e b mark o)
tries_high k P e b mark l h None = (tt, tt)
tries_high k P e b mark l h (Some t) = go (candidates P e.assumed t)
  where
    go : (cs : List Clause) → AreHighTasks k (map (λ c. Try c t e b mark) cs)
    go [] = tt
    go (c ∷ cs) = ((l, h), go cs)

if_tasks : (m : Moving) (x : Bool) (ts us ts' us' : List Task) → ts' ≡ moved_tasks m ts → us' ≡ moved_tasks m us → (if x then ts' else us') ≡ moved_tasks m (if x then ts else us)
if_tasks m true ts us ts' us' p q = p
if_tasks m false ts us ts' us' p q = q

if_high : (k : ℕ) (x : Bool) (ts us : List Task) → AreHighTasks k ts → AreHighTasks k us → AreHighTasks k (if x then ts else us)
if_high k true ts us p q = p
if_high k false ts us p q = q

-- the one variable that goals bind
first_moved : (m : Moving) (σ τ : ℕ → Term) (v : Term) → σ 0 ≡ v → ((i : ℕ) → σ (suc i) ≡ index i) → τ 0 ≡ moved m v → ((i : ℕ) → τ (suc i) ≡ index i) → AreMoved m σ τ
first_moved m σ τ v a b c d zero = c ∙ ap (moved m) (sym a)
first_moved m σ τ v a b c d (suc i) = d i ∙ ap (moved m) (sym (b i))

opened_with : (m : Moving) (σ τ : ℕ → Term) (v : Term) → σ 0 ≡ v → ((i : ℕ) → σ (suc i) ≡ index i) → τ 0 ≡ moved m v → ((i : ℕ) → τ (suc i) ≡ index i) → (gs : Goals) → goal_list (instantiate_goals τ (moved_goals m gs)) ≡ map (moved_goal m) (goal_list (instantiate_goals σ gs))
opened_with m σ τ v a b c d gs = ap goal_list (goals_instantiated m zero σ τ (first_moved m σ τ v a b c d) gs) ∙ goals_listed m (instantiate_goals σ gs)

opened_moved : (m : Moving) (v : Term) (gs : Goals) → opened (moved m v) (moved_goals m gs) ≡ map (moved_goal m) (opened v gs)
opened_moved m v gs = opened_with m _ _ v refl (λ i. refl) refl (λ i. refl) gs

pairs_above : (n : ℕ) (σ : ℕ → Term) (l : ℕ) → n ≤ l → (earlier hs ts : List Term) → AreAbove n (pairs_of σ l earlier hs ts)
pairs_above n σ l h earlier [] ts = tt
pairs_above n σ l h earlier (g ∷ hs) [] = tt
pairs_above n σ l h earlier (g ∷ hs) (t ∷ ts) = go (is_new g earlier) (pairs_above n σ l h (g ∷ earlier) hs ts)
  where
    go : (b : Bool) → AreAbove n (pairs_of σ l (g ∷ earlier) hs ts) → AreAbove n (if b then pairs_of σ l (g ∷ earlier) hs ts else record { left = t; right = instantiate σ g; level = l } ∷ pairs_of σ l (g ∷ earlier) hs ts)
    go true w = w
    go false w = (h, w)

pub high_entries : (n k : ℕ) → n ≤ k → (gs : List Goal) (A : List Clause) (w : Written) (mark : ℕ) → AreHigh n (entries gs A w k mark)
high_entries n k q [] A w mark = tt
high_entries n k q (g ∷ gs) A w mark = (q, high_entries n k q gs A w mark)

module _ (m : Moving) (u n : ℕ) (P : List Clause) (p : map (moved_clause m) P ≡ P) (height : ℕ) (e : Entry) (b : Branch) (l : m.from ≤ e.level) (h : IsHigh m.from b) where
  called : (t : Term) → tries P (moved_entry m e) (moved_branch m b) height (goal_looked n (moved m t)) ≡ moved_tasks m (tries P e b height (goal_looked n t))
  called t = ap (tries P (moved_entry m e) (moved_branch m b) height) (goal_looked_moved m n t) ∙ tries_moved m P p e b height (goal_looked n t)

  constant_moved : (t : Term) (c : ℕ) (us : List Term) → look_constant u n P height (moved_entry m e) (moved_branch m b) (moved m t) c (moved_all m us) ≡ moved_tasks m (look_constant u n P height e b t c us)
  constant_moved t c [] = called t
  constant_moved t c (x ∷ []) = called t
  constant_moved t c (x ∷ y ∷ []) =
      if_tasks m (nat_eq c number.Equal) (equated u n e.level x y b) _ _ _ (equated_moved m u n e.level x y b l h)
      (if_tasks m (nat_eq c number.Is) (assigned u n e.level x b (evaluate n y)) _ _ _ (ap (assigned u n (m.level e.level) (moved m x) (moved_branch m b)) (evaluate_moved m n y) ∙ assigned_moved m u n e.level x b l h (evaluate n y))
      (if_tasks m (is_order c) (compared c b (evaluate n x) (evaluate n y)) _ _ _ ((λ i. compared c (moved_branch m b) (evaluate_moved m n x i) (evaluate_moved m n y i)) ∙ compared_moved m c b (evaluate n x) (evaluate n y)) (called t)))
  constant_moved t c (x ∷ y ∷ z ∷ us) = called t

  constant_high : (t : Term) (c : ℕ) (us : List Term) → AreHighTasks m.from (look_constant u n P height e b t c us)
  constant_high t c [] = tries_high m.from P e b height l h (goal_looked n t)
  constant_high t c (x ∷ []) = tries_high m.from P e b height l h (goal_looked n t)
  constant_high t c (x ∷ y ∷ []) =
      if_high m.from (nat_eq c number.Equal) _ _ (equated_high m.from u n e.level x y b l h)
      (if_high m.from (nat_eq c number.Is) _ _ (assigned_high m.from u n e.level x b l h (evaluate n y))
      (if_high m.from (is_order c) _ _ (compared_high m.from c b h (evaluate n x) (evaluate n y)) (tries_high m.from P e b height l h (goal_looked n t))))
  constant_high t c (x ∷ y ∷ z ∷ us) = tries_high m.from P e b height l h (goal_looked n t)

  abbrev Sees : View Task Answer → View Task Answer → Type 0
  Sees v w = v ≡ moved_view m w

  abbrev Stays : View Task Answer → Type 0
  Stays v = Leaves m.eigen (moved_task m) (moved_answer m) (IsHighTask m.from) v

  atom_moved : (t g : Term) → Sees (look_atom u n P height (moved_entry m e) (moved_branch m b) (moved m t) (moved m g)) (look_atom u n P height e b t g)
  atom_moved t (atom (constant c ts)) = ap (Takes (named c)) (ap (look_constant u n P height (moved_entry m e) (moved_branch m b) (moved m t) c) (arguments_moved m t) ∙ constant_moved t c (arguments t))
  atom_moved t (atom (eigen k)) = ap (Takes (eigenconstant (m.eigen k))) (called t)
  atom_moved t (atom (logic x j)) = refl
  atom_moved t (atom (integer z)) = refl
  atom_moved t (atom (text s)) = refl
  atom_moved t (atom (param k T)) = refl
  atom_moved t (index i) = refl
  atom_moved t (abs c) = refl
  atom_moved t (app f a) = refl

  atom_stays : (t g : Term) → Stays (look_atom u n P height e b t g)
  atom_stays t (atom (constant c ts)) = constant_high t c (arguments t)
  atom_stays t (atom (eigen k)) = tries_high m.from P e b height l h (goal_looked n t)
  atom_stays t (atom (logic x j)) = (tt, tt)
  atom_stays t (atom (integer z)) = tt
  atom_stays t (atom (text s)) = tt
  atom_stays t (atom (param k T)) = tt
  atom_stays t (index i) = tt
  atom_stays t (abs c) = tt
  atom_stays t (app f a) = tt

  placed : (ts : List Term) → in_place (moved_entry m e) (moved_all m ts) ≡ moved_entries m (in_place e ts)
  placed [] = refl
  placed (t ∷ ts) = ap (λ z. record { goal = Atomic (moved m t); assumed = map (moved_clause m) e.assumed; written = moved_written m e.written; level = m.level e.level; mark = e.mark } ∷ z) (placed ts)

  placed_high : (ts : List Term) → AreHigh m.from (in_place e ts)
  placed_high [] = tt
  placed_high (t ∷ ts) = (l, placed_high ts)

  front_moved : (es fs : List Entry) → es ≡ moved_entries m fs → ◌≡◌ {A = Task} (Go (with_goals (moved_branch m b) (es ++ moved_entries m b.goals))) (Go (moved_branch m (with_goals b (fs ++ b.goals))))
  front_moved es fs q = ap (λ z. Go (with_goals (moved_branch m b) z)) (ap (λ z. z ++ moved_entries m b.goals) q ∙ sym (map-append (moved_entry m) fs b.goals))

  front_new : (es fs : List Entry) → es ≡ moved_entries m fs → ◌≡◌ {A = Task} (Go (record { next = suc b.next; next_type = b.next_type; goals = es ++ moved_entries m b.goals; types = b.types; values = moved_all m b.values; pairs = map (moved_pair m) b.pairs }))
      (Go (moved_branch m (record { next = suc b.next; next_type = b.next_type; goals = fs ++ b.goals; types = b.types; values = b.values; pairs = b.pairs })))
  front_new es fs q = ap (λ z. Go (record { next = suc b.next; next_type = b.next_type; goals = z; types = b.types; values = moved_all m b.values; pairs = map (moved_pair m) b.pairs })) (ap (λ z. z ++ moved_entries m b.goals) q ∙ sym (map-append (moved_entry m) fs b.goals))

  front_high : (es : List Entry) → AreHigh m.from es → IsHigh m.from (with_goals b (es ++ b.goals))
  front_high es q = record { goals = each_append (λ x. m.from ≤ x.level) es b.goals q h.goals; pairs = h.pairs }

  next_moved : (s : Term) → at_next_level (moved_entry m e) (substitute (atom (eigen (suc (m.level e.level)))) (moved m s)) ≡ moved_entry m (at_next_level e (substitute (atom (eigen (suc e.level))) s))
  next_moved s = (λ i. record { goal = Atomic (substitute (atom (eigen (sym (m.next e.level l) i))) (moved m s)); assumed = map (moved_clause m) e.assumed; written = moved_written m e.written; level = sym (m.next_level e.level l) i; mark = e.mark }) ∙
      ap (λ z. record { goal = Atomic z; assumed = map (moved_clause m) e.assumed; written = moved_written m e.written; level = m.level (suc e.level); mark = e.mark }) (sym (moved_substitute m (atom (eigen (suc e.level))) s))

  form_moved : (t : Term) (c : Connective) → Sees (look_form u n P height (moved_entry m e) (moved_branch m b) (moved m t) (moved_connective m c)) (look_form u n P height e b t c)
  form_moved t connective.True = refl
  form_moved t (connective.And x y) = ap (λ z. Parts (z ∷ [])) (front_moved _ (in_place e (x ∷ y ∷ [])) (placed (x ∷ y ∷ [])))
  form_moved t (connective.Or x y) = λ i. Parts (front_moved _ (in_place e (x ∷ [])) (placed (x ∷ [])) i ∷ front_moved _ (in_place e (y ∷ [])) (placed (y ∷ [])) i ∷ [])
  form_moved t (connective.ForAll T s) = ap (λ z. Parts (Go (with_goals (moved_branch m b) (z ∷ moved_entries m b.goals)) ∷ [])) (next_moved s)
  form_moved t (connective.Exists T s) = ap (λ z. Parts (z ∷ [])) (front_new _ (in_place e (substitute (atom (logic b.next e.level)) s ∷ []))
      (ap (λ z. in_place (moved_entry m e) (z ∷ [])) (sym (moved_substitute m (atom (logic b.next e.level)) s)) ∙ placed
      (substitute (atom (logic b.next e.level)) s ∷ [])))
  form_moved t connective.Atomic = ap (look_atom u n P height (moved_entry m e) (moved_branch m b) (moved m t)) (head_of_moved m t) ∙ atom_moved t (head_of t)
  form_moved t connective.Cut = refl
  form_moved t (connective.Implies c g) = refl
  form_moved t (connective.Not g) = refl

  form_stays : (t : Term) (c : Connective) → Stays (look_form u n P height e b t c)
  form_stays t connective.True = (h, tt)
  form_stays t (connective.And x y) = (front_high (in_place e (x ∷ y ∷ [])) (placed_high (x ∷ y ∷ [])), tt)
  form_stays t (connective.Or x y) = (front_high (in_place e (x ∷ [])) (placed_high (x ∷ [])), (front_high (in_place e (y ∷ [])) (placed_high (y ∷ [])), tt))
  form_stays t (connective.ForAll T s) = (record { goals = (up_one m.from e.level l, h.goals); pairs = h.pairs }, tt)
  form_stays t (connective.Exists T s) = (record { goals = (l, h.goals); pairs = h.pairs }, tt)
  form_stays t connective.Atomic = atom_stays t (head_of t)
  form_stays t connective.Cut = tt
  form_stays t (connective.Implies c g) = tt
  form_stays t (connective.Not g) = tt

  normal_moved : (o : Option Term) → Sees (look_normal u n P height (moved_entry m e) (moved_branch m b) (option_map (moved m) o)) (look_normal u n P height e b o)
  normal_moved None = refl
  normal_moved (Some t) = ap (look_form u n P height (moved_entry m e) (moved_branch m b) (moved m t)) (connective_moved m t) ∙ form_moved t (connective_of t)

  normal_stays : (o : Option Term) → Stays (look_normal u n P height e b o)
  normal_stays None = tt
  normal_stays (Some t) = form_stays t (connective_of t)

  -- goals by what they were when flattened
  listed : (gs : Goals) → entries (goal_list (moved_goals m gs)) (map (moved_clause m) e.assumed) (moved_written m e.written) (m.level e.level) e.mark ≡ moved_entries m (entries (goal_list gs) e.assumed e.written e.level e.mark)
  listed gs = entries_moved m gs e.assumed e.written e.level e.mark

  listed_front : (gs : Goals) → ◌≡◌ {A = Task} (Go (with_goals (moved_branch m b) (entries (goal_list (moved_goals m gs))
      (map (moved_clause m) e.assumed) (moved_written m e.written) (m.level e.level) e.mark ++ moved_entries m b.goals)))
      (Go (moved_branch m (with_goals b (entries (goal_list gs) e.assumed e.written e.level e.mark ++ b.goals))))
  listed_front gs = front_moved _ (entries (goal_list gs) e.assumed e.written e.level e.mark) (listed gs)

  listed_high : (gs : Goals) → IsHigh m.from (with_goals b (entries (goal_list gs) e.assumed e.written e.level e.mark ++ b.goals))
  listed_high gs = front_high (entries (goal_list gs) e.assumed e.written e.level e.mark) (high_entries m.from e.level l (goal_list gs) e.assumed e.written e.mark)

  opened_listed : (v : Term) (gs : Goals) (k mark : ℕ) → entries (opened (moved m v) (moved_goals m gs)) (map (moved_clause m) e.assumed) (moved_written m e.written) (m.level k) mark ≡ moved_entries m (entries (opened v gs) e.assumed e.written k mark)
  opened_listed v gs k mark = ap (λ z. entries z (map (moved_clause m) e.assumed) (moved_written m e.written) (m.level k) mark) (opened_moved m v gs) ∙ entries_listed m (opened v gs) e.assumed e.written k mark

  opened_next : (gs : Goals) → entries (opened (atom (eigen (suc (m.level e.level)))) (moved_goals m gs)) (map (moved_clause m) e.assumed)
      (moved_written m e.written) (suc (m.level e.level)) e.mark ≡ moved_entries m (entries (opened (atom (eigen (suc e.level))) gs) e.assumed
      e.written (suc e.level) e.mark)
  opened_next gs = (λ i. entries (opened (atom (eigen (sym (m.next e.level l) i))) (moved_goals m gs)) (map (moved_clause m) e.assumed) (moved_written m e.written) (sym (m.next_level e.level l) i) e.mark) ∙ opened_listed (atom (eigen (suc e.level))) gs (suc e.level) e.mark

  assumed_listed : (w : Written) (cs : Clauses) (gs : Goals) → entries (goal_list (moved_goals m gs))
      (clause_list (moved_clauses m cs) ++ map (moved_clause m) e.assumed) (both_written (moved_written m w) (moved_written m e.written))
      (m.level e.level) e.mark ≡ moved_entries m (entries (goal_list gs) (clause_list cs ++ e.assumed) (both_written w e.written) e.level e.mark)
  assumed_listed w cs gs =
      (λ i. entries (goal_list (moved_goals m gs)) ((ap (λ z. z ++ map (moved_clause m) e.assumed) (clauses_listed m cs) ∙ sym (map-append (moved_clause m) (clause_list cs) e.assumed)) i) (both_written_moved m w e.written i) (m.level e.level) e.mark) ∙
      entries_moved m gs (clause_list cs ++ e.assumed) (both_written w e.written) e.level e.mark

  denied_moved : (gs : Goals) (o : Option Bool) → Sees (look_not (moved_entry m e) (moved_branch m b) (moved_goals m gs) o) (look_not e b gs o)
  denied_moved gs None = refl
  denied_moved gs (Some true) = refl
  denied_moved gs (Some false) =
      ap (λ (z : List Entry). Denies (Go (record { next = b.next; next_type = b.next_type; goals = z; types = []; values = []; pairs = [] })) has_no_pairs (Go (moved_branch m b) ∷ [])) (entries_moved m gs e.assumed e.written e.level 0)

  denied_stays : (gs : Goals) (o : Option Bool) → Stays (look_not e b gs o)
  denied_stays gs None = tt
  denied_stays gs (Some true) = (tt, tt)
  denied_stays gs (Some false) = (record { goals = high_entries m.from e.level l (goal_list gs) e.assumed e.written 0; pairs = tt }, (λ a. ap (λ k. nat_eq k 0) (length-map a.pairs (moved_pair m))), (h, tt))

  goal_moved : (g : Goal) → Sees (look_goal u n P height (moved_entry m e) (moved_branch m b) (moved_goal m g)) (look_goal u n P height e b g)
  goal_moved (Atomic t) = ap (look_normal u n P height (moved_entry m e) (moved_branch m b)) (moved_head_normal m n t) ∙ normal_moved (head_normal n t)
  goal_moved Cut = refl
  goal_moved (Either x y) = λ i. Parts (listed_front x i ∷ listed_front y i ∷ [])
  goal_moved (Exists T gs) = ap (λ z. Parts (z ∷ [])) (front_new _ (entries (opened (atom (logic b.next e.level)) gs) e.assumed e.written e.level e.mark) (opened_listed (atom (logic b.next e.level)) gs e.level e.mark))
  goal_moved (Forall T gs) = ap (λ z. Parts (z ∷ [])) (front_moved _ (entries (opened (atom (eigen (suc e.level))) gs) e.assumed e.written (suc e.level) e.mark) (opened_next gs))
  goal_moved (Assume w cs gs) = ap (λ z. Parts (z ∷ [])) (front_moved _ (entries (goal_list gs) (clause_list cs ++ e.assumed) (both_written w e.written) e.level e.mark) (assumed_listed w cs gs))
  goal_moved (Not w gs) = ap (look_not (moved_entry m e) (moved_branch m b) (moved_goals m gs)) (ap (has_variables n) (both_written_moved m w e.written) ∙ variables_moved m n (both_written w e.written)) ∙ denied_moved gs (has_variables n (both_written w e.written))

  goal_stays : (g : Goal) → Stays (look_goal u n P height e b g)
  goal_stays (Atomic t) = normal_stays (head_normal n t)
  goal_stays Cut = (h, tt)
  goal_stays (Either x y) = (listed_high x, (listed_high y, tt))
  goal_stays (Exists T gs) = (
    record {
      goals = each_append (λ x. m.from ≤ x.level) (entries (opened (atom (logic b.next e.level)) gs) e.assumed
          e.written e.level e.mark) b.goals (high_entries m.from e.level l (opened (atom (logic b.next e.level)) gs) e.assumed e.written e.mark) h.goals;
      pairs = h.pairs;
    },
    tt,
  )
  goal_stays (Forall T gs) = (front_high (entries (opened (atom (eigen (suc e.level))) gs) e.assumed e.written (suc e.level) e.mark) (high_entries m.from (suc e.level) (up_one m.from e.level l) (opened (atom (eigen (suc e.level))) gs) e.assumed e.written e.mark), tt)
  goal_stays (Assume w cs gs) = (front_high (entries (goal_list gs) (clause_list cs ++ e.assumed) (both_written w e.written) e.level e.mark) (high_entries m.from e.level l (goal_list gs) (clause_list cs ++ e.assumed) (both_written w e.written) e.mark), tt)
  goal_stays (Not w gs) = denied_stays gs (has_variables n (both_written w e.written))

-- trying a candidate
module _ (m : Moving) (u n : ℕ) (t : Term) (e : Entry) (b : Branch) (mark : ℕ) (l : m.from ≤ e.level) (h : IsHigh m.from b) where
  abbrev terms_at : Term → ℕ → Term
  terms_at g = slotted (slots_of [] (arguments g) (arguments t)) b.next e.level

  abbrev moved_terms_at : Term → ℕ → Term
  moved_terms_at g = slotted (slots_of [] (arguments (moved m g)) (arguments (moved m t))) b.next (m.level e.level)

  abbrev pairs_at : Term → List Pair
  pairs_at g = pairs_of (terms_at g) e.level [] (arguments g) (arguments t)

  pairs_same : (g : Term) → pairs_of (moved_terms_at g) (m.level e.level) [] (arguments (moved m g)) (arguments (moved m t)) ≡ map (moved_pair m) (pairs_at g)
  pairs_same g = (λ i. pairs_of (moved_terms_at g) (m.level e.level) [] (arguments_moved m g i) (arguments_moved m t i)) ∙ pairs_moved m (terms_at g) (moved_terms_at g) (terms_for m g t b.next e.level) e.level [] (arguments g) (arguments t)

  heads_typed : (g : Term) → type_pairs (head_of (moved m t)) (head_of (moved m g)) ≡ type_pairs (head_of t) (head_of g)
  heads_typed g = (λ i. type_pairs (head_of_moved m t i) (head_of_moved m g i)) ∙ types_moved m (head_of t) (head_of g)

  body_same : (g : Term) (gs : Goals) → entries (goal_list (instantiate_goals (moved_terms_at g) (moved_goals m gs))) (map (moved_clause m) e.assumed) (moved_written m e.written) (m.level e.level) mark ++ moved_entries m b.goals ≡
      moved_entries m (entries (goal_list (instantiate_goals (terms_at g) gs)) e.assumed e.written e.level mark ++ b.goals)
  body_same g gs =
      ap (λ z. z ++ moved_entries m b.goals) (ap (λ z. entries (goal_list z) (map (moved_clause m) e.assumed) (moved_written m e.written)
      (m.level e.level) mark) (goals_instantiated m zero (terms_at g) (moved_terms_at g) (terms_for m g t b.next e.level) gs) ∙ entries_moved m
      (instantiate_goals (terms_at g) gs) e.assumed e.written e.level mark) ∙
      sym (map-append (moved_entry m) (entries (goal_list (instantiate_goals (terms_at g) gs)) e.assumed e.written e.level mark) b.goals)

  abbrev tried_branch : (k : ℕ) → List Ty → Term → Goals → Branch
  tried_branch k vs g gs = record {
    next = b.next + length vs;
    next_type = b.next_type + k;
    goals = entries (goal_list (instantiate_goals (terms_at g) gs)) e.assumed e.written e.level mark ++ b.goals;
    types = b.types;
    values = b.values;
    pairs = b.pairs;
  }

  tried_moved : (k : ℕ) (vs : List Ty) (g : Term) (gs : Goals) → typed_try u n k vs (moved m g) (moved_goals m gs) (moved m t) (moved_entry m e) (moved_branch m b) mark ≡ moved_tasks m (typed_try u n k vs g gs t e b mark)
  tried_moved k vs g gs =
      (λ i. follow (record {
        next = b.next + length vs;
        next_type = b.next_type + k;
        goals = body_same g gs i;
        types = b.types;
        values = moved_all m b.values;
        pairs = map (moved_pair m) b.pairs;
      }) (solve n u (heads_typed g i) (pairs_same g i) (map (moved_pair m) b.pairs) (b.next + length vs))) ∙
      ap (follow (moved_branch m (tried_branch k vs g gs))) (solve_moved m n u (type_pairs (head_of t) (head_of g)) (pairs_at g) b.pairs (b.next + length vs) (pairs_above m.from (terms_at g) e.level l [] (arguments g) (arguments t)) h.pairs) ∙
      follow_moved m (tried_branch k vs g gs) (solve n u (type_pairs (head_of t) (head_of g)) (pairs_at g) b.pairs (b.next + length vs))

  try_moved : (c : Clause) → try_clause u n (moved_clause m c) (moved m t) (moved_entry m e) (moved_branch m b) mark ≡ moved_tasks m (try_clause u n c t e b mark)
  try_moved (clause k vs g gs) =
      let θ = renewed k b.next_type in
      (λ i. typed_try u n k (same_types vs i) (instance_moved m θ g i) (goals_typed m (under_all (λ (w : ℕ). w) vs zero) zero θ gs i) (moved m t) (moved_entry m e) (moved_branch m b) mark) ∙
      tried_moved k vs (instance_term θ g) (type_goals θ gs)

  try_high : (c : Clause) → AreHighTasks m.from (try_clause u n c t e b mark)
  try_high (clause k vs g gs) =
      let θ = renewed k b.next_type in
      let g' = instance_term θ g in
      let gs' = type_goals θ gs in
      follow_high m.from (tried_branch k vs g' gs') (solve n u (type_pairs (head_of t) (head_of g')) (pairs_at g') b.pairs (b.next + length vs))
      (each_append (λ x. m.from ≤ x.level) (entries (goal_list (instantiate_goals (terms_at g') gs')) e.assumed e.written e.level mark) b.goals (high_entries m.from e.level l (goal_list (instantiate_goals (terms_at g') gs')) e.assumed e.written mark) h.goals)
      (solve_above m.from n u (type_pairs (head_of t) (head_of g')) (pairs_at g') b.pairs (b.next + length vs) (pairs_above m.from (terms_at g') e.level l [] (arguments g') (arguments t)) h.pairs)

-- each task
branch_moved : (m : Moving) (u n : ℕ) (P : List Clause) → map (moved_clause m) P ≡ P → (height : ℕ) (b : Branch) → AreAbove m.from b.pairs → (es : List Entry) → AreHigh m.from es → look_branch u n P height (moved_branch m b) (moved_entries m es) ≡ moved_view m (look_branch u n P height b es)
branch_moved m u n P p height b a [] h = refl
branch_moved m u n P p height b a (e ∷ es) h = goal_moved m u n P p height e (with_goals b es) h.0 (record { goals = h.1; pairs = a }) e.goal

branch_stays : (m : Moving) (u n : ℕ) (P : List Clause) → map (moved_clause m) P ≡ P → (height : ℕ) (b : Branch) → AreAbove m.from b.pairs → (es : List Entry) → AreHigh m.from es → Leaves m.eigen (moved_task m) (moved_answer m) (IsHighTask m.from) (look_branch u n P height b es)
branch_stays m u n P p height b a [] h = tt
branch_stays m u n P p height b a (e ∷ es) h = goal_stays m u n P p height e (with_goals b es) h.0 (record { goals = h.1; pairs = a }) e.goal

pub look_moved : (m : Moving) (u n : ℕ) (P : List Clause) → map (moved_clause m) P ≡ P → (height : ℕ) (t : Task) → IsHighTask m.from t → look u n P height (moved_task m t) ≡ moved_view m (look u n P height t)
look_moved m u n P p height (Go b) h = branch_moved m u n P p height b h.pairs b.goals h.goals
look_moved m u n P p height (Try c t e b mark) h = ap Opens (try_moved m u n t e b mark h.0 h.1 c)
look_moved m u n P p height (Stop e) h = refl
look_moved m u n P p height Lack h = refl

pub look_stays : (m : Moving) (u n : ℕ) (P : List Clause) → map (moved_clause m) P ≡ P → (height : ℕ) (t : Task) → IsHighTask m.from t → Leaves m.eigen (moved_task m) (moved_answer m) (IsHighTask m.from) (look u n P height t)
look_stays m u n P p height (Go b) h = branch_stays m u n P p height b h.pairs b.goals h.goals
look_stays m u n P p height (Try c t e b mark) h = try_high m u n t e b mark h.0 h.1 c
look_stays m u n P p height (Stop e) h = tt
look_stays m u n P p height Lack h = tt
