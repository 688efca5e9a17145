-- Each look at a task whose terms are in a family leaves such tasks, and binds none but the type variables that may stand in them.
use Rattle.std.proofs.Common.{◌≡◌, ◌≤◌, ◌<◌, ℕ, zero, suc, ◌+◌, List, [], ◌∷◌, ◌++◌, map, length, Option, Some, None, Bool, true, false, refl, sym, ap, ◌∙◌, subst as transport, arith}
use Rattle.std.specs.Prelude.{cond, filter, nat_eq, nat_le, nat_lt, ◌&&◌, if◌then◌else◌}
use Rattle.std.proofs.lemmas.Bool.{lt-ltb}
use Rattle.lp_calculus.specs.Types.{Ty, var, instance}
use Rattle.lp_calculus.specs.Term.{Term, index, atom, abs, app, Atom, constant, integer, text, eigen, logic, param}
use Rattle.lp_calculus.specs.Instance.{instance_term}
use Rattle.lp_calculus.specs.Normal.{IsHead}
use Rattle.lp_calculus.specs.Spine.{head_of, arguments}
use Rattle.lp_lemmas.specs.Each.{EachOf}
use Rattle.lp_lemmas.proofs.Booleans.{and_true_left}
use Rattle.lp_lemmas.proofs.Each.{each_append, each_map}
use Rattle.lp_model.specs.Types.{TypeBinding, TypePair, put_types}
use Rattle.lp_model.specs.Look.{head_normal}
use Rattle.lp_model.specs.Pair.{Pair}
use Rattle.lp_model.specs.Rule.{type_pairs}
use Rattle.lp_model.specs.Same.{same_name}
use Rattle.lp_model.specs.Unify.{State, Unified, Fail, Solution, Spent, solve}
use Rattle.lp_model.specs.Values.{Outcome, Is, Faults, Number, Bytes, evaluate, ordered, term_of}
use Rattle.lp_model.specs.Skeleton.{View, Gives, Opens, Parts, Takes, Cuts, Denies, Halts, Lacks}
use Rattle.lp_standard.specs.Connectives.{Connective, connective_of}
use Rattle.lp_standard.specs.Connectives as connective
use Rattle.lp_model.specs.Flat.{Goal, Atomic, Cut, Either, Exists, Forall, Assume, Not, Goals, goal_list, clause_list, Clause, clause, instantiate_goals, type_goals}
use Rattle.lp_model.specs.Branch.{Entry, Branch, Answer, Task, Go, Try, Stop, Lack, entries, both_written, put_entries, resume}
use Rattle.lp_model.specs.Search.{with_goals, follow, equated, assigned, compared, candidates, has_head, passes, goal_looked, has_variables, tries, slots_of, slotted, pairs_of, renewed, try_clause, in_place, look_constant, look_atom, look_form, look_normal, look_not, look_goal, look_branch, look}
use Rattle.lp_unify_laws.proofs.Looks.{head_reduces}
use Rattle.lp_search_laws.proofs.Families.{Family}
use Rattle.lp_search_laws.proofs.LookedGoals.{goal_head, goal_reduces}
use Rattle.lp_search_laws.proofs.KeptTasks.{IsGoalWith, AreGoalsWith, IsAssumedWith, IsKeptProgram, IsKeptEntry, IsKeptTried, IsKeptBranch, IsKeptTry, IsKeptTask, IsKeptForm, goals_mapped, clauses_each, all_put, all_typed, goals_entries, instantiated, opened_kept, arguments_kept, form_kept, slotted_kept, slots_kept, pairs_kept}
use Rattle.lp_search_laws.proofs.RunsKeep.{GoodPair, good_more, head_pairs, solve_good}
use Rattle.lp_search_laws.proofs.TryMatches.{none_renewed}
use Rattle.lp_search_laws.proofs.TypesOver.{Over, Left, AreSolved, ArePairsOver, each_more}

head_instance : (θ : ℕ → Ty) (t : Term) → IsHead (head_of t) → IsHead (head_of (instance_term θ t))
head_instance θ (index i) h = tt
head_instance θ (atom a) h = tt
head_instance θ (abs b) h = h
head_instance θ (app f a) h = head_instance θ f h

-- what has the name of an atom is a head
head_named : (h : Term) (a : Atom) → same_name (head_of h) (atom a) ≡ true → IsHead (head_of h)
head_named (index i) a e = tt
head_named (atom b) a e = tt
head_named (abs b) a e = absurd (cc)
head_named (app f u) a e = head_named f a e

module _ (K : (ℕ → Type 0) → Term → Type 0) (family : Family K) (Q : ℕ → Type 0) (Ts : List Ty → Type 0) (puts : (bs : List TypeBinding) → AreSolved Q bs → (ts : List Ty) → Ts ts → Ts (map (put_types bs) ts)) where
  abbrev pub Kept : Task → Type 0
  Kept T = IsKeptTask K family Q Ts T

  -- of the search of a negated goal
  abbrev pub Inside : Task → Type 0
  Inside T = IsKeptTask K family Q (λ ts. Unit {0}) T

  abbrev pub IsKeptView : View Task Answer → Type 0
  IsKeptView (Gives a) = Ts a.types
  IsKeptView (Opens ts) = EachOf Kept ts
  IsKeptView (Parts ts) = EachOf Kept ts
  IsKeptView (Takes name ts) = EachOf Kept ts
  IsKeptView (Cuts m ts) = EachOf Kept ts
  IsKeptView (Denies t f ts) = Inside t × EachOf Kept ts
  IsKeptView (Halts e) = Unit {0}
  IsKeptView Lacks = Unit {0}

  resumed : (b : Branch) (n limit : ℕ) (eqs : List TypePair) (ps : List Pair) (next : ℕ) (s : State) → IsKeptBranch K family Q Ts b → ArePairsOver Q eqs → EachOf (GoodPair K family Q) ps → solve n limit eqs ps b.pairs next ≡ Some (Solution s) → IsKeptBranch K family Q Ts (resume b s)
  resumed b n limit eqs ps next s h he hp e =
      let g = solve_good K family Q n limit eqs ps b.pairs next s he hp h.pairs e in
      record {
        entries = all_typed K family Q s.types g.types.over (put_entries s.bindings b.goals) (all_put K family Q s.bindings g.bindings b.goals h.entries);
        pairs = each_more (GoodPair K family (Left Q s.types)) (GoodPair K family Q) (λ p x. record { left = good_more K family (Left Q s.types) Q (λ i l. l.0) p.left x.left; right = good_more K family (Left Q s.types) Q (λ i l. l.0) p.right x.right }) s.delayed g.delayed;
        fresh = h.fresh;
        types = puts s.types g.types b.types h.types;
      }

  followed : (b : Branch) (n limit : ℕ) (eqs : List TypePair) (ps : List Pair) (next : ℕ) → IsKeptBranch K family Q Ts b → ArePairsOver Q eqs → EachOf (GoodPair K family Q) ps → (o : Option Unified) → solve n limit eqs ps b.pairs next ≡ o → EachOf Kept (follow b o)
  followed b n limit eqs ps next h he hp None e = (tt, tt)
  followed b n limit eqs ps next h he hp (Some Spent) e = (tt, tt)
  followed b n limit eqs ps next h he hp (Some Fail) e = tt
  followed b n limit eqs ps next h he hp (Some (Solution s)) e = (resumed b n limit eqs ps next s h he hp e, tt)

  if_each : (p : Bool) (x y : List Task) → EachOf Kept x → EachOf Kept y → EachOf Kept (if p then x else y)
  if_each true x y h k = h
  if_each false x y h k = k

  equated_each : (u n level : ℕ) (s t : Term) (b : Branch) → K Q s → K Q t → IsKeptBranch K family Q Ts b → EachOf Kept (equated u n level s t b)
  equated_each u n level s t b v w h = followed b n u [] (record { left = s; right = t; level = level } ∷ []) b.next h tt (record { left = v; right = w }, tt) (solve n u [] (record { left = s; right = t; level = level } ∷ []) b.pairs b.next) refl

  assigned_each : (u n level : ℕ) (t : Term) (b : Branch) (o : Option Outcome) → K Q t → IsKeptBranch K family Q Ts b → EachOf Kept (assigned u n level t b o)
  assigned_each u n level t b None w h = (tt, tt)
  assigned_each u n level t b (Some (Faults f)) w h = (tt, tt)
  assigned_each u n level t b (Some (Is v)) w h = equated_each u n level t (term_of v) b w ((family.keeps Q).values v) h

  compared_each : (c : ℕ) (b : Branch) (o r : Option Outcome) → IsKeptBranch K family Q Ts b → EachOf Kept (compared c b o r)
  compared_each c b None r h = (tt, tt)
  compared_each c b (Some (Faults f)) r h = (tt, tt)
  compared_each c b (Some (Is (Bytes s))) r h = (tt, tt)
  compared_each c b (Some (Is (Number x))) None h = (tt, tt)
  compared_each c b (Some (Is (Number x))) (Some (Faults f)) h = (tt, tt)
  compared_each c b (Some (Is (Number x))) (Some (Is (Bytes s))) h = (tt, tt)
  compared_each c b (Some (Is (Number x))) (Some (Is (Number y))) h = if_each (ordered c x y) (Go b ∷ []) [] (h, tt) tt

  -- clauses with new type variables
  new_over : (next k : ℕ) → ((i : ℕ) → next ≤ i → Q i) → (i : ℕ) → i < k → Over Q (renewed k next i)
  new_over next k f i l = go (nat_lt i k) refl
    where
      go : (b : Bool) → nat_lt i k ≡ b → Over Q (if b then var (next + i) else var i)
      go true e = f (next + i) (omega arith)
      go false e = let q = lt-ltb i k l in absurd (cc)

  tried_program : (next : ℕ) → ((i : ℕ) → next ≤ i → Q i) → (k : ℕ) (vs : List Ty) (h : Term) (b : Goals) → IsKeptProgram K family (clause k vs h b) → IsHead (head_of h) → IsKeptTried K family Q next (clause k vs h b)
  tried_program next f k vs h b w i =
      let θ = renewed k next in (
        family.typed (λ j. j < k) Q θ (new_over next k f) h w.0,
        goals_mapped {E = ℕ} (λ u. u) (λ u t. instance_term (renewed k next) t) (instance (renewed k next)) (K (λ j. j < k)) (K Q) (λ u. Unit {0}) (λ u v. tt) (λ u v t x. family.typed (λ j. j < k) Q (renewed k next) (new_over next k f) t x) zero tt b w.1,
        i,
      )

  same_over : (next n : ℕ) → n ≡ 0 → (i : ℕ) → Q i → Over Q (renewed n next i)
  same_over next n e i q = transport (Over Q) (sym (none_renewed n next e i)) q

  tried_assumed : (next n : ℕ) (vs : List Ty) (h : Term) (b : Goals) → IsAssumedWith (K Q) (clause n vs h b) → IsHead (head_of h) → IsKeptTried K family Q next (clause n vs h b)
  tried_assumed next n vs h b w i = (
    family.typed Q Q (renewed n next) (same_over next n w.0) h w.1,
    goals_mapped {E = ℕ} (λ u. u) (λ u t. instance_term (renewed n next) t) (instance (renewed n next)) (K Q) (K Q) (λ u. Unit {0}) (λ u v. tt) (λ u v t x. family.typed Q Q (renewed n next) (same_over next n w.0) t x) zero tt b w.2,
    i,
  )

  module _ (next : ℕ) (fresh : (i : ℕ) → next ≤ i → Q i) (t : Term) (a : Atom) (is : head_of t ≡ atom a) where
    named : (h : Term) → same_name (head_of h) (head_of t) ≡ true → IsHead (head_of h)
    named h e = head_named h a (ap (same_name (head_of h)) (sym is) ∙ e)

    program_passes : (cs : List Clause) → EachOf (IsKeptProgram K family) cs → EachOf (IsKeptTried K family Q next) (filter (passes t) cs)
    program_passes [] h = tt
    program_passes (clause k vs x b ∷ cs) h = go (passes t (clause k vs x b)) refl (program_passes cs h.1)
      where
        go : (v : Bool) → passes t (clause k vs x b) ≡ v → EachOf (IsKeptTried K family Q next) (filter (passes t) cs) → EachOf (IsKeptTried K family Q next) (cond v (clause k vs x b ∷ filter (passes t) cs) (filter (passes t) cs))
        go true e w = (tried_program next fresh k vs x b h.0 (named x (and_true_left (same_name (head_of x) (head_of t)) _ e)), w)
        go false e w = w

    assumed_passes : (cs : List Clause) → EachOf (IsAssumedWith (K Q)) cs → EachOf (IsKeptTried K family Q next) (filter (has_head t) cs)
    assumed_passes [] h = tt
    assumed_passes (clause n vs x b ∷ cs) h = go (has_head t (clause n vs x b)) refl (assumed_passes cs h.1)
      where
        go : (v : Bool) → has_head t (clause n vs x b) ≡ v → EachOf (IsKeptTried K family Q next) (filter (has_head t) cs) → EachOf (IsKeptTried K family Q next) (cond v (clause n vs x b ∷ filter (has_head t) cs) (filter (has_head t) cs))
        go true e w = (tried_assumed next n vs x b h.0 (named x e), w)
        go false e w = w

  module _ (u n : ℕ) (P : List Clause) (program : EachOf (IsKeptProgram K family) P) where
    all_tries : (t : Term) (a : Atom) → head_of t ≡ atom a → K Q t → (e : Entry) (b : Branch) (mark : ℕ) → EachOf (IsAssumedWith (K Q)) e.assumed → IsKeptBranch K family Q Ts b → EachOf Kept (tries P e b mark (Some t))
    all_tries t a is w e b mark v h =
        each_map (IsKeptTried K family Q b.next_type) Kept (λ c. Try c t e b mark) (λ c k. record { branch = h; term = w; head = transport IsHead (sym is) tt; clause = k; assumed = v }) (candidates P e.assumed t)
        (each_append (IsKeptTried K family Q b.next_type) (filter (has_head t) e.assumed) (filter (passes t) P) (assumed_passes b.next_type h.fresh t a is e.assumed v) (program_passes b.next_type h.fresh t a is P program))

    looked_tries : (t : Term) (a : Atom) → head_of t ≡ atom a → K Q t → (e : Entry) (b : Branch) (mark : ℕ) → EachOf (IsAssumedWith (K Q)) e.assumed → IsKeptBranch K family Q Ts b → (o : Option Term) → goal_looked n t ≡ o → EachOf Kept (tries P e b mark o)
    looked_tries t a is w e b mark v h None k = (tt, tt)
    looked_tries t a is w e b mark v h (Some g) k = all_tries g a (goal_head n t g k ∙ is) ((family.keeps Q).reduces (goal_reduces n t g k) w) e b mark v h

    module _ (height : ℕ) (e : Entry) (b : Branch) (v : EachOf (IsAssumedWith (K Q)) e.assumed) (h : IsKeptBranch K family Q Ts b) where
      constant_each : (t : Term) (c : ℕ) (ts : List Ty) → head_of t ≡ atom (constant c ts) → K Q t → (us : List Term) → EachOf (K Q) us → EachOf Kept (look_constant u n P height e b t c us)
      constant_each t c ts is w [] k = looked_tries t (constant c ts) is w e b height v h (goal_looked n t) refl
      constant_each t c ts is w (x ∷ []) k = looked_tries t (constant c ts) is w e b height v h (goal_looked n t) refl
      constant_each t c ts is w (x ∷ y ∷ z ∷ us) k = looked_tries t (constant c ts) is w e b height v h (goal_looked n t) refl
      constant_each t c ts is w (l ∷ r ∷ []) k =
          if_each (nat_eq c 8) _ _ (equated_each u n e.level l r b k.0 k.1.0 h)
          (if_each (nat_eq c 9) _ _ (assigned_each u n e.level l b (evaluate n r) k.0 h)
          (if_each (nat_le 10 c && nat_le c 13) _ _ (compared_each c b (evaluate n l) (evaluate n r) h) (looked_tries t (constant c ts) is w e b height v h (goal_looked n t) refl)))

      atom_view : (t : Term) → K Q t → (x : Term) → head_of t ≡ x → IsKeptView (look_atom u n P height e b t x)
      atom_view t w (atom (constant c ts)) is = constant_each t c ts is w (arguments t) (arguments_kept K family Q t (transport IsHead (sym is) tt) w).1
      atom_view t w (atom (eigen j)) is = looked_tries t (eigen j) is w e b height v h (goal_looked n t) refl
      atom_view t w (atom (logic x l)) is = (tt, tt)
      atom_view t w (atom (integer z)) is = tt
      atom_view t w (atom (text s)) is = tt
      atom_view t w (atom (param j T)) is = tt
      atom_view t w (index i) is = tt
      atom_view t w (abs s) is = tt
      atom_view t w (app f s) is = tt

      placed : (ts : List Term) → EachOf (K Q) ts → EachOf (IsKeptEntry K family Q) (in_place e ts)
      placed [] w = tt
      placed (t ∷ ts) w = (record { goal = w.0; assumed = v }, placed ts w.1)

      -- entries in front, with another number of the next variable
      led : (m : ℕ) (es : List Entry) → EachOf (IsKeptEntry K family Q) es → IsKeptBranch K family Q Ts (record { next = m; next_type = b.next_type; goals = es ++ b.goals; types = b.types; values = b.values; pairs = b.pairs })
      led m es w = record { entries = each_append (IsKeptEntry K family Q) es b.goals w h.entries; pairs = h.pairs; fresh = h.fresh; types = h.types }

      form_view : (t : Term) (f : Connective) → K Q t → IsKeptForm K family Q f → IsKeptView (look_form u n P height e b t f)
      form_view t connective.True w k = (h, tt)
      form_view t connective.Cut w k = tt
      form_view t (connective.And l r) w k = (led b.next (in_place e (l ∷ r ∷ [])) (placed (l ∷ r ∷ []) (k.0, (k.1, tt))), tt)
      form_view t (connective.Or l r) w k = (led b.next (in_place e (l ∷ [])) (placed (l ∷ []) (k.0, tt)), (led b.next (in_place e (r ∷ [])) (placed (r ∷ []) (k.1, tt)), tt))
      form_view t (connective.ForAll T s) w k = (led b.next (_ ∷ []) (record { goal = k (atom (eigen (suc e.level))) ((family.keeps Q).local (suc e.level)); assumed = v }, tt), tt)
      form_view t (connective.Exists T s) w k = (led (suc b.next) (in_place e (_ ∷ [])) (placed (_ ∷ []) (k (atom (logic b.next e.level)) ((family.keeps Q).free b.next e.level), tt)), tt)
      form_view t (connective.Implies c g) w k = tt
      form_view t (connective.Not g) w k = tt
      form_view t connective.Atomic w k = atom_view t w (head_of t) refl

      normal_view : (t : Term) → K Q t → (o : Option Term) → head_normal n t ≡ o → IsKeptView (look_normal u n P height e b o)
      normal_view t w None is = tt
      normal_view t w (Some x) is = let k = (family.keeps Q).reduces (head_reduces n t x is) w in form_view x (connective_of x) k (form_kept K family Q x k)

      not_view : (gs : Goals) → AreGoalsWith (K Q) gs → (o : Option Bool) → IsKeptView (look_not e b gs o)
      not_view gs w None = tt
      not_view gs w (Some true) = (tt, tt)
      not_view gs w (Some false) = (record { entries = goals_entries K family Q gs e.assumed e.written e.level 0 w v; pairs = tt; fresh = h.fresh; types = tt }, (h, tt))

      goal_view : (g : Goal) → IsGoalWith (K Q) g → IsKeptView (look_goal u n P height e b g)
      goal_view (Atomic t) w = normal_view t w (head_normal n t) refl
      goal_view Cut w = (h, tt)
      goal_view (Either l r) w = (led b.next _ (goals_entries K family Q l e.assumed e.written e.level e.mark w.0 v), (led b.next _ (goals_entries K family Q r e.assumed e.written e.level e.mark w.1 v), tt))
      goal_view (Exists T gs) w = (led (suc b.next) _ (goals_entries K family Q _ e.assumed e.written e.level e.mark (opened_kept K family Q _ (atom (logic b.next e.level)) ((family.keeps Q).free b.next e.level) refl (λ i. refl) gs w) v), tt)
      goal_view (Forall T gs) w = (led b.next _ (goals_entries K family Q _ e.assumed e.written (suc e.level) e.mark (opened_kept K family Q _ (atom (eigen (suc e.level))) ((family.keeps Q).local (suc e.level)) refl (λ i. refl) gs w) v), tt)
      goal_view (Assume x cs gs) w = (led b.next _ (goals_entries K family Q gs (clause_list cs ++ e.assumed) (both_written x e.written) e.level e.mark w.1 (each_append (IsAssumedWith (K Q)) (clause_list cs) e.assumed (clauses_each (K Q) cs w.0) v)), tt)
      goal_view (Not x gs) w = not_view gs w (has_variables n (both_written x e.written))

    branch_view : (height : ℕ) (b : Branch) → IsKeptBranch K family Q Ts b → (es : List Entry) → EachOf (IsKeptEntry K family Q) es → IsKeptView (look_branch u n P height b es)
    branch_view height b h [] w = h.types
    branch_view height b h (e ∷ es) w = goal_view height e (with_goals b es) w.0.assumed (record { entries = w.1; pairs = h.pairs; fresh = h.fresh; types = h.types }) e.goal w.0.goal

    try_each : (c : Clause) (t : Term) (e : Entry) (b : Branch) (mark : ℕ) → IsKeptTry K family Q Ts c t e b → EachOf Kept (try_clause u n c t e b mark)
    try_each (clause k vs x body) t e b mark w =
        let θ = renewed k b.next_type in
        let y = instance_term θ x in
        let σ = slotted (slots_of [] (arguments y) (arguments t)) b.next e.level in
        let gs = type_goals θ body in
        let ht = arguments_kept K family Q t w.head w.term in
        let hy = arguments_kept K family Q y (head_instance θ x w.clause.2) w.clause.0 in
        let s = slotted_kept K family Q (slots_of [] (arguments y) (arguments t)) (slots_kept K family Q [] (arguments y) (arguments t) ht.1) b.next e.level in
        followed (record {
          next = b.next + length vs;
          next_type = b.next_type + k;
          goals = entries (goal_list (instantiate_goals σ gs)) e.assumed e.written e.level mark ++ b.goals;
          types = b.types;
          values = b.values;
          pairs = b.pairs;
        }) n u (type_pairs (head_of t) (head_of y)) (pairs_of σ e.level [] (arguments y) (arguments t)) (b.next + length vs)
        (record {
          entries = each_append (IsKeptEntry K family Q) _ b.goals (goals_entries K family Q (instantiate_goals σ gs) e.assumed e.written e.level mark (instantiated K family Q σ s gs w.clause.1) w.assumed) w.branch.entries;
          pairs = w.branch.pairs;
          fresh = λ i l. w.branch.fresh i (omega (arith, l));
          types = w.branch.types;
        })
        (head_pairs K family Q (head_of t) (head_of y) ht.0 hy.0)
        (pairs_kept K family Q σ s e.level [] (arguments y) (arguments t) hy.1 ht.1)
        (solve n u (type_pairs (head_of t) (head_of y)) (pairs_of σ e.level [] (arguments y) (arguments t)) b.pairs (b.next + length vs)) refl

    pub kept_look : (height : ℕ) (T : Task) → Kept T → IsKeptView (look u n P height T)
    kept_look height (Go b) h = branch_view height b h b.goals h.entries
    kept_look height (Try c t e b mark) h = try_each c t e b mark h
    kept_look height (Stop x) h = tt
    kept_look height Lack h = tt
