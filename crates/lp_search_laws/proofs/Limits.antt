-- More units for each unification, more steps, and more goals that may be taken apart in a row change nothing of a run that ends since it has no more.
use Rattle.std.proofs.Common.{◌≡◌, ℕ, zero, suc, ◌+◌, ◌≤◌, List, [], ◌∷◌, ◌++◌, length, refl, sym, ap, ◌∙◌, arith, Bool, true, false, Option, Some, None, inl, inr}
use Rattle.std.proofs.lemmas.Bool.{cases_lt, lt-ltb, le-ltb}
use Rattle.std.specs.Prelude.{◌⊎◌, nat_eq, nat_lt, if◌then◌else◌}
use Rattle.lp_calculus.specs.Types.{Ty}
use Rattle.lp_calculus.specs.Term.{Term, index, atom, abs, app, constant, integer, text, eigen, logic, param}
use Rattle.lp_calculus.specs.Instance.{instance_term}
use Rattle.lp_model.specs.declared.ending.Ending.TheVariants.{NoMore, Deep}
use Rattle.lp_model.specs.Skeleton.{GoalName, View, Opens, Takes, starts_within, run}
use Rattle.lp_calculus.specs.Spine.{head_of, arguments}
use Rattle.lp_model.specs.Look.{head_normal, ◌>>=◌}
use Rattle.lp_model.specs.Types.{TypePair, TypeOutcome, none, solved, solve_types}
use Rattle.lp_model.specs.Pair.{Pair}
use Rattle.lp_model.specs.Rule.{type_pairs}
use Rattle.lp_model.specs.Unify.{Turn, Goes, Fails, Solved, Unified, Fail, Solution, Spent, limited, begun, go_on, turn, unify, solve}
use Rattle.lp_model.specs.Unify as unification
use Rattle.lp_standard.specs.Connectives.{Connective, connective_of}
use Rattle.lp_standard.specs.Connectives as connective
use Rattle.lp_model.specs.Flat.{Goal, Atomic, Cut, Either, Exists, Forall, Assume, Not, Goals, Clause, clause, goal_list, instantiate_goals, type_goals}
use Rattle.lp_model.specs.Values.{Outcome, Is, Faults, evaluate, term_of}
use Rattle.lp_model.specs.Branch.{Entry, Branch, Answer, Task, Go, Try, Stop, Lack, entries}
use Rattle.lp_model.specs.Search.{with_goals, follow, equated, assigned, slots_of, slotted, pairs_of, renewed, tried, try_clause, look_constant, look_atom, look_form, look_normal, look_goal, look_branch, look}
use Rattle.lp_search_laws.proofs.Stack.Limits.{Shallower, same_view, opens_dead, takes_dead, run_within}

-- the first is spent, or they are the same
Reaches : Option Unified → Option Unified → Type 0
Reaches o o' = (o ≡ Some Spent) ⊎ (o ≡ o')

compare_limits : (u v x : ℕ) → u ≤ v → (nat_lt u x ≡ true) ⊎ ((nat_lt u x ≡ false) × (nat_lt v x ≡ false))
compare_limits u v x l = elim (cases_lt u x) [
  | inl a ↦ inl (lt-ltb u x a)
  | inr a ↦ inr (le-ltb u x a, let b : x ≤ v = omega (arith, a, l) in le-ltb v x b)
]

-- what is left where a limit is not passed
abbrev unless : Bool → Option Unified → Option Unified
unless c o = elim c [ true ↦ Some Spent | false ↦ o ]

unless_reaches : (u v x : ℕ) → u ≤ v → (o o' : Option Unified) → Reaches o o' → Reaches (unless (nat_lt u x) o) (unless (nat_lt v x) o')
unfolding Reaches
unless_reaches u v x l o o' h = elim (compare_limits u v x l) [
  | inl e ↦ inl (ap (λ b. unless b o) e)
  | inr e ↦ elim h [
    | inl q ↦ inl (ap (λ b. unless b o) e.0 ∙ q)
    | inr q ↦ inr (ap (λ b. unless b o) e.0 ∙ q ∙ sym (ap (λ b. unless b o') e.1))
  ]
]

limited_reaches : (u v x : ℕ) (r : Unified) → u ≤ v → Reaches (Some (limited u x r)) (Some (limited v x r))
unfolding Reaches
limited_reaches u v x r l = elim (compare_limits u v x l) [
  | inl e ↦ inl (ap (λ b. Some (elim b [ true ↦ Spent | false ↦ r ])) e)
  | inr e ↦ inr (ap (λ b. Some (elim b [ true ↦ Spent | false ↦ r ])) e.0 ∙ sym (ap (λ b. Some (elim b [ true ↦ Spent | false ↦ r ])) e.1))
]

unify_reaches : (m n u v : ℕ) → u ≤ v → (s : unification.State) → Reaches (unify m n u s) (unify m n v s)
unfolding Reaches
unify_reaches zero n u v l s = inr refl
unify_reaches (suc m) n u v l s = go (λ s'. unify_reaches m n u v l s') (turn n s)
  where
    after : ℕ → Turn → Option Unified
    after w t = elim t [ Goes s' ↦ elim (nat_lt w s'.units) [ true ↦ Some Spent | false ↦ unify m n w s' ] | Fails x ↦ Some (limited w x Fail) | Solved s' ↦ Some (Solution s') ]

    go : ((s' : unification.State) → Reaches (unify m n u s') (unify m n v s')) → (o : Option Turn) → Reaches (o >>= after u) (o >>= after v)
    go ih None = inr refl
    go ih (Some (Goes s')) = unless_reaches u v s'.units l (unify m n u s') (unify m n v s') (ih s')
    go ih (Some (Fails x)) = limited_reaches u v x Fail l
    go ih (Some (Solved s')) = inr refl

solve_reaches : (n u v : ℕ) → u ≤ v → (types : List TypePair) (ps ds : List Pair) (next : ℕ) → Reaches (solve n u types ps ds next) (solve n v types ps ds next)
unfolding Reaches
solve_reaches n u v l types ps ds next = go (solve_types n types [] 0)
  where
    go : (o : Option TypeOutcome) → Reaches (o >>= go_on n u ps ds next) (o >>= go_on n v ps ds next)
    go None = inr refl
    go (Some (none x)) = limited_reaches u v x Fail l
    go (Some (solved ts x)) = unless_reaches u v x l (unify n n u (begun ps ds next (solved ts x))) (unify n n v (begun ps ds next (solved ts x))) (unify_reaches n n u v l (begun ps ds next (solved ts x)))

-- tasks: the same, or the search stops as too deep

Stopped : List Task → List Task → Type 0
Stopped ts us = (ts ≡ Stop Deep ∷ []) ⊎ (ts ≡ us)

same_tasks : (ts : List Task) → Stopped ts ts
unfolding Stopped
same_tasks ts = inr refl

follow_reaches : (b : Branch) (o o' : Option Unified) → Reaches o o' → Stopped (follow b o) (follow b o')
unfolding Reaches Stopped
follow_reaches b o o' (inl e) = inl (ap (follow b) e)
follow_reaches b o o' (inr e) = inr (ap (follow b) e)

abbrev IsDeep : Task → Type 0
IsDeep t = t ≡ Stop Deep

abbrev Looks : View Task Answer → View Task Answer → Type 0
Looks v w = Shallower IsDeep v w

module _ (u v : ℕ) (l : u ≤ v) (n : ℕ) where
  equated_stopped : (level : ℕ) (t s : Term) (b : Branch) → Stopped (equated u n level t s b) (equated v n level t s b)
  equated_stopped level t s b =
      let ps : List Pair = record { left = t; right = s; level = level } ∷ [] in
      follow_reaches b (solve n u [] ps b.pairs b.next) (solve n v [] ps b.pairs b.next) (solve_reaches n u v l [] ps b.pairs b.next)

  assigned_stopped : (level : ℕ) (t : Term) (b : Branch) (o : Option Outcome) → Stopped (assigned u n level t b o) (assigned v n level t b o)
  assigned_stopped level t b None = same_tasks _
  assigned_stopped level t b (Some (Faults f)) = same_tasks _
  assigned_stopped level t b (Some (Is x)) = equated_stopped level t (term_of x) b

  tried_stopped : (k : ℕ) (vs : List Ty) (h : Term) (body : Goals) (t : Term) (e : Entry) (b : Branch) (mark : ℕ) (σ : ℕ → Term) → Stopped (tried u n k vs h body t e b mark σ) (tried v n k vs h body t e b mark σ)
  tried_stopped k vs h body t e b mark σ =
      let ps = pairs_of σ e.level [] (arguments h) (arguments t) in
      let types = type_pairs (head_of t) (head_of h) in
      follow_reaches (record {
        next = b.next + length vs;
        next_type = b.next_type + k;
        goals = entries (goal_list (instantiate_goals σ body)) e.assumed e.written e.level mark ++ b.goals;
        types = b.types;
        values = b.values;
        pairs = b.pairs;
      }) (solve n u types ps b.pairs (b.next + length vs)) (solve n v types ps b.pairs (b.next + length vs)) (solve_reaches n u v l types ps b.pairs (b.next + length vs))

  try_stopped : (c : Clause) (t : Term) (e : Entry) (b : Branch) (mark : ℕ) → Stopped (try_clause u n c t e b mark) (try_clause v n c t e b mark)
  try_stopped (clause k vs h body) t e b mark =
      let h' = instance_term (renewed k b.next_type) h in
      tried_stopped k vs h' (type_goals (renewed k b.next_type) body) t e b mark (slotted (slots_of [] (arguments h') (arguments t)) b.next e.level)

  stopped_if : (c : Bool) (x x' y y' : List Task) → Stopped x x' → Stopped y y' → Stopped (if c then x else y) (if c then x' else y')
  stopped_if true x x' y y' p q = p
  stopped_if false x x' y y' p q = q

  constant_stopped : (P : List Clause) (height : ℕ) (e : Entry) (b : Branch) (t : Term) (c : ℕ) (ts : List Term) → Stopped (look_constant u n P height e b t c ts) (look_constant v n P height e b t c ts)
  constant_stopped P height e b t c [] = same_tasks _
  constant_stopped P height e b t c (x ∷ []) = same_tasks _
  constant_stopped P height e b t c (x ∷ y ∷ z ∷ ts) = same_tasks _
  constant_stopped P height e b t c (x ∷ y ∷ []) =
      stopped_if (nat_eq c 8) _ _ _ _ (equated_stopped e.level x y b) (stopped_if (nat_eq c 9) _ _ _ _ (assigned_stopped e.level x b (evaluate n y)) (same_tasks _))

  takes_stopped : (name : GoalName) (ts us : List Task) → Stopped ts us → Looks (Takes name ts) (Takes name us)
  unfolding Stopped
  takes_stopped name ts us (inl e) = takes_dead name (Stop Deep) [] us refl (ap (Takes name) e) refl
  takes_stopped name ts us (inr e) = same_view (ap (Takes name) e)

  opens_stopped : (ts us : List Task) → Stopped ts us → Looks (Opens ts) (Opens us)
  unfolding Stopped
  opens_stopped ts us (inl e) = opens_dead (Stop Deep) [] refl (ap Opens e)
  opens_stopped ts us (inr e) = same_view (ap Opens e)

  atom_shallower : (P : List Clause) (height : ℕ) (e : Entry) (b : Branch) (t h : Term) → Looks (look_atom u n P height e b t h) (look_atom v n P height e b t h)
  atom_shallower P height e b t (atom (constant c ts)) = takes_stopped _ _ _ (constant_stopped P height e b t c (arguments t))
  atom_shallower P height e b t (atom (eigen k)) = same_view refl
  atom_shallower P height e b t (atom (logic x j)) = same_view refl
  atom_shallower P height e b t (atom (integer z)) = same_view refl
  atom_shallower P height e b t (atom (text s)) = same_view refl
  atom_shallower P height e b t (atom (param k s)) = same_view refl
  atom_shallower P height e b t (index i) = same_view refl
  atom_shallower P height e b t (abs s) = same_view refl
  atom_shallower P height e b t (app f s) = same_view refl

  form_shallower : (P : List Clause) (height : ℕ) (e : Entry) (b : Branch) (t : Term) (f : Connective) → Looks (look_form u n P height e b t f) (look_form v n P height e b t f)
  form_shallower P height e b t connective.True = same_view refl
  form_shallower P height e b t connective.Cut = same_view refl
  form_shallower P height e b t (connective.And x y) = same_view refl
  form_shallower P height e b t (connective.Or x y) = same_view refl
  form_shallower P height e b t (connective.Implies x y) = same_view refl
  form_shallower P height e b t (connective.ForAll T x) = same_view refl
  form_shallower P height e b t (connective.Exists T x) = same_view refl
  form_shallower P height e b t (connective.Not g) = same_view refl
  form_shallower P height e b t connective.Atomic = atom_shallower P height e b t (head_of t)

  normal_shallower : (P : List Clause) (height : ℕ) (e : Entry) (b : Branch) (o : Option Term) → Looks (look_normal u n P height e b o) (look_normal v n P height e b o)
  normal_shallower P height e b None = same_view refl
  normal_shallower P height e b (Some t) = form_shallower P height e b t (connective_of t)

  goal_shallower : (P : List Clause) (height : ℕ) (e : Entry) (b : Branch) (g : Goal) → Looks (look_goal u n P height e b g) (look_goal v n P height e b g)
  goal_shallower P height e b (Atomic t) = normal_shallower P height e b (head_normal n t)
  goal_shallower P height e b Cut = same_view refl
  goal_shallower P height e b (Either x y) = same_view refl
  goal_shallower P height e b (Exists T x) = same_view refl
  goal_shallower P height e b (Forall T x) = same_view refl
  goal_shallower P height e b (Assume ws cs x) = same_view refl
  goal_shallower P height e b (Not ws x) = same_view refl

  branch_shallower : (P : List Clause) (height : ℕ) (b : Branch) (es : List Entry) → Looks (look_branch u n P height b es) (look_branch v n P height b es)
  branch_shallower P height b [] = same_view refl
  branch_shallower P height b (e ∷ es) = goal_shallower P height e (with_goals b es) e.goal

  look_shallower : (P : List Clause) (height : ℕ) (t : Task) → Looks (look u n P height t) (look v n P height t)
  look_shallower P height (Go b) = branch_shallower P height b b.goals
  look_shallower P height (Try c t e b mark) = opens_stopped _ _ (try_stopped c t e b mark)
  look_shallower P height (Stop x) = same_view refl
  look_shallower P height Lack = same_view refl

  pub greater_limits : (P : List Clause) (j m : ℕ) (t : Task) (r q a b k : ℕ) → r ≤ q → a ≤ b → (run (look u n P) j m (starts_within r t a k)).ending ≡ Some NoMore → run (look v n P) j m (starts_within q t b k) ≡ run (look u n P) j m (starts_within r t a k)
  greater_limits P j m t r q a b k lr la h =
      run_within (look u n P) (look v n P) IsDeep (λ height x d. ap (look u n P height) d) (look_shallower P) j m a b k 0 r q r q false (t ∷ []) la lr lr h
