-- Without negated goals none comes: what is put into goals and clauses brings none, and no look leaves one.
use Rattle.std.proofs.Common.{ℕ, zero, suc, ◌+◌, List, [], ◌∷◌, ◌++◌, map, length, Option, Some, None, Bool, true, false}
use Rattle.std.specs.Prelude.{cond, filter, nat_eq, nat_le, ◌&&◌, if◌then◌else◌}
use Rattle.lp_calculus.specs.Types.{Ty}
use Rattle.lp_calculus.specs.Term.{Term, index, atom, abs, app, constant, integer, text, eigen, logic, param}
use Rattle.lp_calculus.specs.Fill.{Binding}
use Rattle.lp_calculus.specs.Instance.{instance_term}
use Rattle.lp_calculus.specs.Spine.{head_of, arguments}
use Rattle.lp_lemmas.specs.Each.{EachOf}
use Rattle.lp_lemmas.proofs.Each.{each_append}
use Rattle.lp_model.specs.Types.{TypeBinding}
use Rattle.lp_model.specs.Look.{head_normal}
use Rattle.lp_model.specs.Rule.{type_pairs}
use Rattle.lp_model.specs.Unify.{Unified, Fail, Solution, Spent, solve}
use Rattle.lp_model.specs.Values.{Outcome, Is, Faults, Number, Bytes, evaluate, ordered}
use Rattle.lp_model.specs.Skeleton.{View, Gives, Opens, Parts, Takes, Cuts, Denies, Halts, Lacks}
use Rattle.lp_standard.specs.Connectives.{Connective, connective_of}
use Rattle.lp_standard.specs.Connectives as connective
use Rattle.lp_model.specs.Flat.{Goal, Atomic, Cut, Either, Exists, Forall, Assume, Not, Written, under_all, map_goal, map_goals, map_clause, map_clauses, Goals, no_goals, goals, goal_list, clause_list, Clause, clause, Clauses, no_clauses, clauses, instantiate_goals, type_goals}
use Rattle.lp_model.specs.Branch.{Entry, Branch, Answer, Task, Go, Try, Stop, Lack, entries, put_entry, put_entries, type_entry, type_entries, both_written}
use Rattle.lp_model.specs.Search.{with_goals, follow, assigned, compared, candidates, goal_looked, tries, slots_of, slotted, pairs_of, renewed, try_clause, in_place, look_constant, look_atom, look_form, look_normal, look_goal, look_branch, look}
use Rattle.lp_search_laws.specs.Unnegated.{IsUnnegatedGoal, AreUnnegatedGoals, IsUnnegatedClause, AreUnnegatedClauses}

-- tasks without negated goals
pub record IsUnnegatedEntry (e : Entry) : Type 0 where
  pub goal : IsUnnegatedGoal e.goal
  pub assumed : EachOf IsUnnegatedClause e.assumed

-- of a candidate, the clause, what is assumed in its place, and the goals behind
abbrev pub IsUnnegatedTask : Task → Type 0
IsUnnegatedTask (Go b) = EachOf IsUnnegatedEntry b.goals
IsUnnegatedTask (Try c t e b mark) = IsUnnegatedClause c × EachOf IsUnnegatedClause e.assumed × EachOf IsUnnegatedEntry b.goals
IsUnnegatedTask (Stop x) = Unit {0}
IsUnnegatedTask Lack = Unit {0}

-- what a view leaves
abbrev pub IsUnnegatedView : View Task Answer → Type 0
IsUnnegatedView (Gives a) = Unit {0}
IsUnnegatedView (Opens ts) = EachOf IsUnnegatedTask ts
IsUnnegatedView (Parts ts) = EachOf IsUnnegatedTask ts
IsUnnegatedView (Takes name ts) = EachOf IsUnnegatedTask ts
IsUnnegatedView (Cuts m ts) = EachOf IsUnnegatedTask ts
IsUnnegatedView (Denies t is_final ts) = ⊥
IsUnnegatedView (Halts e) = Unit {0}
IsUnnegatedView Lacks = Unit {0}

module _ {E : Type 0} (under : E → E) (term : E → Term → Term) (ty : Ty → Ty) where
  mutual
    pub goal_mapped : (e : E) (g : Goal) → IsUnnegatedGoal g → IsUnnegatedGoal (map_goal under term ty e g)
    goal_mapped e (Atomic t) h = tt
    goal_mapped e Cut h = tt
    goal_mapped e (Either l r) h = (goals_mapped e l h.0, goals_mapped e r h.1)
    goal_mapped e (Exists T gs) h = goals_mapped (under e) gs h
    goal_mapped e (Forall T gs) h = goals_mapped (under e) gs h
    goal_mapped e (Assume w cs gs) h = (clauses_mapped e cs h.0, goals_mapped e gs h.1)
    goal_mapped e (Not w gs) h = h

    pub goals_mapped : (e : E) (gs : Goals) → AreUnnegatedGoals gs → AreUnnegatedGoals (map_goals under term ty e gs)
    goals_mapped e no_goals h = tt
    goals_mapped e (goals g gs) h = (goal_mapped e g h.0, goals_mapped e gs h.1)

    pub clause_mapped : (e : E) (c : Clause) → IsUnnegatedClause c → IsUnnegatedClause (map_clause under term ty e c)
    clause_mapped e (clause n vs h b) w = goals_mapped (under_all under vs e) b w

    clauses_mapped : (e : E) (cs : Clauses) → AreUnnegatedClauses cs → AreUnnegatedClauses (map_clauses under term ty e cs)
    clauses_mapped e no_clauses h = tt
    clauses_mapped e (clauses c cs) h = (clause_mapped e c h.0, clauses_mapped e cs h.1)

  each_mapped : (e : E) (cs : List Clause) → EachOf IsUnnegatedClause cs → EachOf IsUnnegatedClause (map (map_clause under term ty e) cs)
  each_mapped e [] h = tt
  each_mapped e (c ∷ cs) h = (clause_mapped e c h.0, each_mapped e cs h.1)

goals_each : (gs : Goals) → AreUnnegatedGoals gs → EachOf IsUnnegatedGoal (goal_list gs)
goals_each no_goals h = tt
goals_each (goals g gs) h = (h.0, goals_each gs h.1)

pub clauses_each : (cs : Clauses) → AreUnnegatedClauses cs → EachOf IsUnnegatedClause (clause_list cs)
clauses_each no_clauses h = tt
clauses_each (clauses c cs) h = (h.0, clauses_each cs h.1)

-- entries
pub list_entries : (gs : List Goal) (A : List Clause) (w : Written) (l m : ℕ) → EachOf IsUnnegatedGoal gs → EachOf IsUnnegatedClause A → EachOf IsUnnegatedEntry (entries gs A w l m)
list_entries [] A w l m h k = tt
list_entries (g ∷ gs) A w l m h k = (record { goal = h.0; assumed = k }, list_entries gs A w l m h.1 k)

pub goals_entries : (gs : Goals) (A : List Clause) (w : Written) (l m : ℕ) → AreUnnegatedGoals gs → EachOf IsUnnegatedClause A → EachOf IsUnnegatedEntry (entries (goal_list gs) A w l m)
goals_entries gs A w l m h k = list_entries (goal_list gs) A w l m (goals_each gs h) k

put_each : (b : Binding) (es : List Entry) → EachOf IsUnnegatedEntry es → EachOf IsUnnegatedEntry (map (put_entry b) es)
put_each b [] h = tt
put_each b (e ∷ es) h = (record { goal = goal_mapped _ _ _ zero e.goal h.0.goal; assumed = each_mapped _ _ _ zero e.assumed h.0.assumed }, put_each b es h.1)

put_all_each : (bs : List Binding) (es : List Entry) → EachOf IsUnnegatedEntry es → EachOf IsUnnegatedEntry (put_entries bs es)
put_all_each [] es h = h
put_all_each (b ∷ bs) es h = put_all_each bs (map (put_entry b) es) (put_each b es h)

type_each : (b : TypeBinding) (es : List Entry) → EachOf IsUnnegatedEntry es → EachOf IsUnnegatedEntry (map (type_entry b) es)
type_each b [] h = tt
type_each b (e ∷ es) h = (record { goal = goal_mapped _ _ _ zero e.goal h.0.goal; assumed = each_mapped _ _ _ zero e.assumed h.0.assumed }, type_each b es h.1)

type_all_each : (bs : List TypeBinding) (es : List Entry) → EachOf IsUnnegatedEntry es → EachOf IsUnnegatedEntry (type_entries bs es)
type_all_each [] es h = h
type_all_each (b ∷ bs) es h = type_all_each bs (map (type_entry b) es) (type_each b es h)

-- tasks
followed : (b : Branch) (o : Option Unified) → EachOf IsUnnegatedEntry b.goals → EachOf IsUnnegatedTask (follow b o)
followed b None h = (tt, tt)
followed b (Some Spent) h = (tt, tt)
followed b (Some Fail) h = tt
followed b (Some (Solution s)) h = (type_all_each s.types (put_entries s.bindings b.goals) (put_all_each s.bindings b.goals h), tt)

if_each : (p : Bool) (x y : List Task) → EachOf IsUnnegatedTask x → EachOf IsUnnegatedTask y → EachOf IsUnnegatedTask (if p then x else y)
if_each true x y h k = h
if_each false x y h k = k

assigned_each : (u n l : ℕ) (t : Term) (b : Branch) (o : Option Outcome) → EachOf IsUnnegatedEntry b.goals → EachOf IsUnnegatedTask (assigned u n l t b o)
assigned_each u n l t b None h = (tt, tt)
assigned_each u n l t b (Some (Faults f)) h = (tt, tt)
assigned_each u n l t b (Some (Is v)) h = followed b _ h

compared_each : (c : ℕ) (b : Branch) (o r : Option Outcome) → EachOf IsUnnegatedEntry b.goals → EachOf IsUnnegatedTask (compared c b o r)
compared_each c b None r h = (tt, tt)
compared_each c b (Some (Faults f)) r h = (tt, tt)
compared_each c b (Some (Is (Bytes s))) r h = (tt, tt)
compared_each c b (Some (Is (Number x))) None h = (tt, tt)
compared_each c b (Some (Is (Number x))) (Some (Faults f)) h = (tt, tt)
compared_each c b (Some (Is (Number x))) (Some (Is (Bytes s))) h = (tt, tt)
compared_each c b (Some (Is (Number x))) (Some (Is (Number y))) h = if_each (ordered c x y) (Go b ∷ []) [] (h, tt) tt

filtered : (p : Clause → Bool) (cs : List Clause) → EachOf IsUnnegatedClause cs → EachOf IsUnnegatedClause (filter p cs)
filtered p [] h = tt
filtered p (c ∷ cs) h = go (p c) (filtered p cs h.1)
  where
    go : (b : Bool) → EachOf IsUnnegatedClause (filter p cs) → EachOf IsUnnegatedClause (cond b (c ∷ filter p cs) (filter p cs))
    go true k = (h.0, k)
    go false k = k

tries_each : (cs : List Clause) (t : Term) (e : Entry) (b : Branch) (mark : ℕ) → EachOf IsUnnegatedClause cs → EachOf IsUnnegatedClause e.assumed → EachOf IsUnnegatedEntry b.goals → EachOf IsUnnegatedTask (map (λ c. Try c t e b mark) cs)
tries_each [] t e b mark h a k = tt
tries_each (c ∷ cs) t e b mark h a k = ((h.0, a, k), tries_each cs t e b mark h.1 a k)

module _ (u n : ℕ) (P : List Clause) (program : EachOf IsUnnegatedClause P) where
  all_tries : (e : Entry) (b : Branch) (mark : ℕ) (o : Option Term) → EachOf IsUnnegatedClause e.assumed → EachOf IsUnnegatedEntry b.goals → EachOf IsUnnegatedTask (tries P e b mark o)
  all_tries e b mark None a h = (tt, tt)
  all_tries e b mark (Some t) a h = tries_each (candidates P e.assumed t) t e b mark (each_append IsUnnegatedClause _ _ (filtered _ e.assumed a) (filtered _ P program)) a h

  module _ (height : ℕ) (e : Entry) (b : Branch) (a : EachOf IsUnnegatedClause e.assumed) (h : EachOf IsUnnegatedEntry b.goals) where
    constant_each : (t : Term) (c : ℕ) (ts : List Term) → EachOf IsUnnegatedTask (look_constant u n P height e b t c ts)
    constant_each t c [] = all_tries e b height (goal_looked n t) a h
    constant_each t c (x ∷ []) = all_tries e b height (goal_looked n t) a h
    constant_each t c (x ∷ y ∷ z ∷ ts) = all_tries e b height (goal_looked n t) a h
    constant_each t c (l ∷ r ∷ []) =
        if_each (nat_eq c 8) _ _ (followed b _ h) (if_each (nat_eq c 9) _ _ (assigned_each u n e.level l b (evaluate n r) h) (if_each (nat_le 10 c && nat_le c 13) _ _ (compared_each c b (evaluate n l) (evaluate n r) h) (all_tries e b height (goal_looked n t) a h)))

    atom_view : (t k : Term) → IsUnnegatedView (look_atom u n P height e b t k)
    atom_view t (atom (constant c ts)) = constant_each t c (arguments t)
    atom_view t (atom (eigen j)) = all_tries e b height (goal_looked n t) a h
    atom_view t (atom (logic x l)) = (tt, tt)
    atom_view t (atom (integer z)) = tt
    atom_view t (atom (text s)) = tt
    atom_view t (atom (param j T)) = tt
    atom_view t (index i) = tt
    atom_view t (abs s) = tt
    atom_view t (app f s) = tt

    placed : (ts : List Term) → EachOf IsUnnegatedEntry (in_place e ts)
    placed [] = tt
    placed (t ∷ ts) = (record { goal = tt; assumed = a }, placed ts)

    form_view : (t : Term) (f : Connective) → IsUnnegatedView (look_form u n P height e b t f)
    form_view t connective.True = (h, tt)
    form_view t connective.Cut = tt
    form_view t (connective.And l r) = (each_append IsUnnegatedEntry (in_place e (l ∷ r ∷ [])) b.goals (placed (l ∷ r ∷ [])) h, tt)
    form_view t (connective.Or l r) = (each_append IsUnnegatedEntry (in_place e (l ∷ [])) b.goals (placed (l ∷ [])) h, (each_append IsUnnegatedEntry (in_place e (r ∷ [])) b.goals (placed (r ∷ [])) h, tt))
    form_view t (connective.ForAll T s) = ((record { goal = tt; assumed = a }, h), tt)
    form_view t (connective.Exists T s) = ((record { goal = tt; assumed = a }, h), tt)
    form_view t (connective.Implies c g) = tt
    form_view t (connective.Not g) = tt
    form_view t connective.Atomic = atom_view t (head_of t)

    normal_view : (o : Option Term) → IsUnnegatedView (look_normal u n P height e b o)
    normal_view None = tt
    normal_view (Some t) = form_view t (connective_of t)

    goal_view : (g : Goal) → IsUnnegatedGoal g → IsUnnegatedView (look_goal u n P height e b g)
    goal_view (Atomic t) w = normal_view (head_normal n t)
    goal_view Cut w = (h, tt)
    goal_view (Either l r) w = (each_append IsUnnegatedEntry _ b.goals (goals_entries l e.assumed e.written e.level e.mark w.0 a) h, (each_append IsUnnegatedEntry _ b.goals (goals_entries r e.assumed e.written e.level e.mark w.1 a) h, tt))
    goal_view (Exists T gs) w = (each_append IsUnnegatedEntry _ b.goals (goals_entries _ e.assumed e.written e.level e.mark (goals_mapped _ _ _ _ gs w) a) h, tt)
    goal_view (Forall T gs) w = (each_append IsUnnegatedEntry _ b.goals (goals_entries _ e.assumed e.written (suc e.level) e.mark (goals_mapped _ _ _ _ gs w) a) h, tt)
    goal_view (Assume v cs gs) w = (each_append IsUnnegatedEntry _ b.goals (goals_entries gs (clause_list cs ++ e.assumed) (both_written v e.written) e.level e.mark w.1 (each_append IsUnnegatedClause (clause_list cs) e.assumed (clauses_each cs w.0) a)) h, tt)
    goal_view (Not v gs) w = absurd w

  branch_view : (height : ℕ) (b : Branch) (es : List Entry) → EachOf IsUnnegatedEntry es → IsUnnegatedView (look_branch u n P height b es)
  branch_view height b [] h = tt
  branch_view height b (e ∷ es) h = goal_view height e (with_goals b es) h.0.assumed h.1 e.goal h.0.goal

  try_each : (c : Clause) (t : Term) (e : Entry) (b : Branch) (mark : ℕ) → IsUnnegatedClause c → EachOf IsUnnegatedClause e.assumed → EachOf IsUnnegatedEntry b.goals → EachOf IsUnnegatedTask (try_clause u n c t e b mark)
  try_each (clause k vs x body) t e b mark w a h =
      let x' = instance_term (renewed k b.next_type) x in
      let σ = slotted (slots_of [] (arguments x') (arguments t)) b.next e.level in
      let body' = type_goals (renewed k b.next_type) body in
      followed (record {
        next = b.next + length vs;
        next_type = b.next_type + k;
        goals = entries (goal_list (instantiate_goals σ body')) e.assumed e.written e.level mark ++ b.goals;
        types = b.types;
        values = b.values;
        pairs = b.pairs;
      }) (solve n u (type_pairs (head_of t) (head_of x')) (pairs_of σ e.level [] (arguments x') (arguments t)) b.pairs (b.next + length vs))
      (each_append IsUnnegatedEntry _ b.goals (goals_entries (instantiate_goals σ body') e.assumed e.written e.level mark (goals_mapped _ _ _ σ body' (goals_mapped _ _ _ zero body w)) a) h)

  pub unnegated_look : (height : ℕ) (t : Task) → IsUnnegatedTask t → IsUnnegatedView (look u n P height t)
  unnegated_look height (Go b) h = branch_view height b b.goals h
  unnegated_look height (Try c t e b mark) h = try_each c t e b mark h.0 h.1 h.2
  unnegated_look height (Stop x) h = tt
  unnegated_look height Lack h = tt
