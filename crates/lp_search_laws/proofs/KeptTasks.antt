-- Each look at a task keeps the terms of a family: what is put into goals and clauses, what unification leaves, and what a goal known at run time is taken apart into.
-- So a run binds none but the type variables that stand in these terms.
use Rattle.std.proofs.Common.{◌≡◌, ◌≤◌, ◌<◌, ℕ, zero, suc, ◌+◌, List, [], ◌∷◌, map, Bool, true, false, refl, sym, subst as transport}
use Rattle.std.specs.Prelude.{nat_eq, if◌then◌else◌}
use Rattle.lp_calculus.specs.Types.{Ty, var, instance}
use Rattle.lp_calculus.specs.Term.{Term, index, atom, abs, app, substitute, constant, integer, text, eigen, logic, param}
use Rattle.lp_calculus.specs.Fill.{Binding, put}
use Rattle.lp_calculus.specs.Instance.{instance_term}
use Rattle.lp_calculus.specs.Normal.{IsHead}
use Rattle.lp_calculus.specs.Spine.{head_of, arguments}
use Rattle.lp_lemmas.specs.Each.{EachOf}
use Rattle.lp_lemmas.proofs.Each.{each_map}
use Rattle.lp_model.specs.Index.{instantiate, lifted}
use Rattle.lp_model.specs.Types.{TypeBinding, one_type}
use Rattle.lp_standard.specs.Connectives.{Connective, connective_of, connective_at, connective_of_constant}
use Rattle.lp_standard.specs.Connectives as connective
use Rattle.lp_model.specs.Flat.{Goal, Atomic, Cut, Either, Exists, Forall, Assume, Not, Written, under_all, map_goal, map_goals, map_clause, map_clauses, Goals, no_goals, goals, goal_list, clause_list, Clause, clause, Clauses, no_clauses, clauses, instantiate_goals, type_goals}
use Rattle.lp_model.specs.Branch.{Entry, Branch, Task, Go, Try, Stop, Lack, entries, put_entry, put_entries, type_entry, type_entries}
use Rattle.lp_model.specs.Search.{Slot, is_new, slot_of, slots_of, slotted, pairs_of, renewed}
use Rattle.lp_proof_laws.proofs.Uniform.Forms.{apply_arguments}
use Rattle.lp_search_laws.proofs.Closed.{body_opens}
use Rattle.lp_search_laws.proofs.Families.{Family}
use Rattle.lp_search_laws.proofs.RunsKeep.{GoodPair}
use Rattle.lp_search_laws.proofs.TypesOver.{Over, IsBoundOver}

-- what holds of each atomic goal and each head; assumed clauses have no type variables of their own
abbrev mutual
  pub IsGoalWith : (Term → Type 0) → Goal → Type 0
  IsGoalWith P (Atomic t) = P t
  IsGoalWith P Cut = Unit {0}
  IsGoalWith P (Either gs hs) = AreGoalsWith P gs × AreGoalsWith P hs
  IsGoalWith P (Exists T gs) = AreGoalsWith P gs
  IsGoalWith P (Forall T gs) = AreGoalsWith P gs
  IsGoalWith P (Assume w cs gs) = AreClausesWith P cs × AreGoalsWith P gs
  IsGoalWith P (Not w gs) = AreGoalsWith P gs

  pub AreGoalsWith : (Term → Type 0) → Goals → Type 0
  AreGoalsWith P no_goals = Unit {0}
  AreGoalsWith P (goals g gs) = IsGoalWith P g × AreGoalsWith P gs

  pub IsAssumedWith : (Term → Type 0) → Clause → Type 0
  IsAssumedWith P (clause n vs h b) = (n ≡ 0) × P h × AreGoalsWith P b

  pub AreClausesWith : (Term → Type 0) → Clauses → Type 0
  AreClausesWith P no_clauses = Unit {0}
  AreClausesWith P (clauses c cs) = IsAssumedWith P c × AreClausesWith P cs

-- what is put into goals and clauses
module _ {E : Type 0} (under : E → E) (term : E → Term → Term) (ty : Ty → Ty) (A B : Term → Type 0) (Env : E → Type 0) (below : (e : E) → Env e → Env (under e)) (each : (e : E) → Env e → (t : Term) → A t → B (term e t)) where
  below_all : (vs : List Ty) (e : E) → Env e → Env (under_all under vs e)
  below_all [] e h = h
  below_all (v ∷ vs) e h = below (under_all under vs e) (below_all vs e h)

  mutual
    pub goal_mapped : (e : E) → Env e → (g : Goal) → IsGoalWith A g → IsGoalWith B (map_goal under term ty e g)
    goal_mapped e v (Atomic t) h = each e v t h
    goal_mapped e v Cut h = tt
    goal_mapped e v (Either l r) h = (goals_mapped e v l h.0, goals_mapped e v r h.1)
    goal_mapped e v (Exists T gs) h = goals_mapped (under e) (below e v) gs h
    goal_mapped e v (Forall T gs) h = goals_mapped (under e) (below e v) gs h
    goal_mapped e v (Assume w cs gs) h = (clauses_mapped e v cs h.0, goals_mapped e v gs h.1)
    goal_mapped e v (Not w gs) h = goals_mapped e v gs h

    pub goals_mapped : (e : E) → Env e → (gs : Goals) → AreGoalsWith A gs → AreGoalsWith B (map_goals under term ty e gs)
    goals_mapped e v no_goals h = tt
    goals_mapped e v (goals g gs) h = (goal_mapped e v g h.0, goals_mapped e v gs h.1)

    pub assumed_mapped : (e : E) → Env e → (c : Clause) → IsAssumedWith A c → IsAssumedWith B (map_clause under term ty e c)
    assumed_mapped e v (clause n vs h b) w = let x = below_all vs e v in (w.0, each (under_all under vs e) x h w.1, goals_mapped (under_all under vs e) x b w.2)

    pub clauses_mapped : (e : E) → Env e → (cs : Clauses) → AreClausesWith A cs → AreClausesWith B (map_clauses under term ty e cs)
    clauses_mapped e v no_clauses h = tt
    clauses_mapped e v (clauses c cs) h = (assumed_mapped e v c h.0, clauses_mapped e v cs h.1)

pub goals_each : (A : Term → Type 0) (gs : Goals) → AreGoalsWith A gs → EachOf (IsGoalWith A) (goal_list gs)
goals_each A no_goals h = tt
goals_each A (goals g gs) h = (h.0, goals_each A gs h.1)

pub clauses_each : (A : Term → Type 0) (cs : Clauses) → AreClausesWith A cs → EachOf (IsAssumedWith A) (clause_list cs)
clauses_each A no_clauses h = tt
clauses_each A (clauses c cs) h = (h.0, clauses_each A cs h.1)

module _ (K : (ℕ → Type 0) → Term → Type 0) (family : Family K) where
  -- of a program: over its own type variables
  abbrev pub IsKeptProgram : Clause → Type 0
  IsKeptProgram (clause k vs h b) = K (λ i. i < k) h × AreGoalsWith (K (λ i. i < k)) b

  module _ (Q : ℕ → Type 0) where
    pub record IsKeptEntry (e : Entry) : Type 0 where
      pub goal : IsGoalWith (K Q) e.goal
      pub assumed : EachOf (IsAssumedWith (K Q)) e.assumed

    -- a clause as it is tried: with new type variables
    abbrev pub IsKeptTried : (next_type : ℕ) → Clause → Type 0
    IsKeptTried next (clause n vs h b) = K Q (instance_term (renewed n next) h) × AreGoalsWith (K Q) (type_goals (renewed n next) b) × IsHead (head_of h)

    -- new type variables are of Q, and the types of the branch are as they should be
    pub record IsKeptBranch (Ts : List Ty → Type 0) (b : Branch) : Type 0 where
      pub entries : EachOf IsKeptEntry b.goals
      pub pairs : EachOf (GoodPair K family Q) b.pairs
      pub fresh : (i : ℕ) → b.next_type ≤ i → Q i
      pub types : Ts b.types

    pub record IsKeptTry (Ts : List Ty → Type 0) (c : Clause) (t : Term) (e : Entry) (b : Branch) : Type 0 where
      pub branch : IsKeptBranch Ts b
      pub term : K Q t
      pub head : IsHead (head_of t)
      pub clause : IsKeptTried b.next_type c
      pub assumed : EachOf (IsAssumedWith (K Q)) e.assumed

    abbrev pub IsKeptTask : (Ts : List Ty → Type 0) → Task → Type 0
    IsKeptTask Ts (Go b) = IsKeptBranch Ts b
    IsKeptTask Ts (Try c t e b mark) = IsKeptTry Ts c t e b
    IsKeptTask Ts (Stop x) = Unit {0}
    IsKeptTask Ts Lack = Unit {0}

    -- bindings put in
    each_put : (b : Binding) → K Q b.value → (es : List Entry) → EachOf IsKeptEntry es → EachOf IsKeptEntry (map (put_entry b) es)
    each_put b v [] h = tt
    each_put b v (e ∷ es) h = (
      record {
        goal = goal_mapped {E = ℕ} (λ u. u) (λ u t. put b t) (λ T. T) (K Q) (K Q) (λ u. Unit {0}) (λ u w. tt) (λ u w t k. (family.keeps Q).puts b v t k) zero tt e.goal h.0.goal;
        assumed = each_map (IsAssumedWith (K Q)) (IsAssumedWith (K Q)) _ (assumed_mapped {E = ℕ} (λ u. u) (λ u t. put b t) (λ T. T) (K Q) (K Q) (λ u. Unit {0}) (λ u w. tt) (λ u w t k. (family.keeps Q).puts b v t k) zero tt) e.assumed h.0.assumed;
      },
      each_put b v es h.1,
    )

    pub all_put : (bs : List Binding) → EachOf (λ b. K Q b.value) bs → (es : List Entry) → EachOf IsKeptEntry es → EachOf IsKeptEntry (put_entries bs es)
    all_put [] v es h = h
    all_put (b ∷ bs) v es h = all_put bs v.1 (map (put_entry b) es) (each_put b v.0 es h)

    -- and types
    one_over : (b : TypeBinding) → IsBoundOver Q b → (i : ℕ) → Q i → Over Q (one_type b i)
    one_over b h i q = go (nat_eq i b.id)
      where
        go : (c : Bool) → Over Q (if c then b.value else var i)
        go true = h.1
        go false = q

    each_typed : (b : TypeBinding) → IsBoundOver Q b → (es : List Entry) → EachOf IsKeptEntry es → EachOf IsKeptEntry (map (type_entry b) es)
    each_typed b v [] h = tt
    each_typed b v (e ∷ es) h = (
      record {
        goal = goal_mapped {E = ℕ} (λ u. u) (λ u t. instance_term (one_type b) t) (instance (one_type b)) (K Q) (K Q) (λ u. Unit {0}) (λ u w. tt) (λ u w t k. family.typed Q Q (one_type b) (one_over b v) t k) zero tt e.goal h.0.goal;
        assumed = each_map (IsAssumedWith (K Q)) (IsAssumedWith (K Q)) _ (assumed_mapped {E = ℕ} (λ u. u) (λ u t. instance_term (one_type b) t)
            (instance (one_type b)) (K Q) (K Q) (λ u. Unit {0}) (λ u w. tt) (λ u w t k. family.typed Q Q (one_type b) (one_over b v) t k) zero tt)
            e.assumed h.0.assumed;
      },
      each_typed b v es h.1,
    )

    pub all_typed : (bs : List TypeBinding) → EachOf (IsBoundOver Q) bs → (es : List Entry) → EachOf IsKeptEntry es → EachOf IsKeptEntry (type_entries bs es)
    all_typed [] v es h = h
    all_typed (b ∷ bs) v es h = all_typed bs v.1 (map (type_entry b) es) (each_typed b v.0 es h)

    -- entries
    list_entries : (gs : List Goal) (A : List Clause) (w : Written) (l m : ℕ) → EachOf (IsGoalWith (K Q)) gs → EachOf (IsAssumedWith (K Q)) A → EachOf IsKeptEntry (entries gs A w l m)
    list_entries [] A w l m h a = tt
    list_entries (g ∷ gs) A w l m h a = (record { goal = h.0; assumed = a }, list_entries gs A w l m h.1 a)

    pub goals_entries : (gs : Goals) (A : List Clause) (w : Written) (l m : ℕ) → AreGoalsWith (K Q) gs → EachOf (IsAssumedWith (K Q)) A → EachOf IsKeptEntry (entries (goal_list gs) A w l m)
    goals_entries gs A w l m h a = list_entries (goal_list gs) A w l m (goals_each (K Q) gs h) a

    -- terms for indices
    lifted_kept : (f : ℕ → Term) → ((i : ℕ) → K Q (f i)) → (i : ℕ) → K Q (lifted f i)
    lifted_kept f h zero = (family.keeps Q).loose 0
    lifted_kept f h (suc i) = (family.keeps Q).raises 0 (f i) (h i)

    pub instantiated : (f : ℕ → Term) → ((i : ℕ) → K Q (f i)) → (gs : Goals) → AreGoalsWith (K Q) gs → AreGoalsWith (K Q) (instantiate_goals f gs)
    instantiated f h gs w = goals_mapped lifted instantiate (λ T. T) (K Q) (K Q) (λ g. (i : ℕ) → K Q (g i)) lifted_kept (λ g v t k. (family.keeps Q).instances g v t k) f h gs w

    pub opened_kept : (f : ℕ → Term) (u : Term) → K Q u → f 0 ≡ u → ((i : ℕ) → f (suc i) ≡ index i) → (gs : Goals) → AreGoalsWith (K Q) gs → AreGoalsWith (K Q) (instantiate_goals f gs)
    opened_kept f u k e g gs w = instantiated f each gs w
      where
        each : (i : ℕ) → K Q (f i)
        each zero = transport (K Q) (sym e) k
        each (suc i) = transport (K Q) (sym (g i)) ((family.keeps Q).loose i)

    pub arguments_kept : (t : Term) → IsHead (head_of t) → K Q t → K Q (head_of t) × EachOf (K Q) (arguments t)
    arguments_kept t i h = (family.keeps Q).parts (head_of t) (arguments t) i (transport (K Q) (sym (apply_arguments t [])) h)

    -- what a goal is taken apart into
    abbrev pub IsKeptForm : Connective → Type 0
    IsKeptForm connective.True = Unit {0}
    IsKeptForm connective.Cut = Unit {0}
    IsKeptForm (connective.And l r) = K Q l × K Q r
    IsKeptForm (connective.Or l r) = K Q l × K Q r
    IsKeptForm (connective.Implies c g) = Unit {0}
    IsKeptForm (connective.ForAll T s) = (u : Term) → K Q u → K Q (substitute u s)
    IsKeptForm (connective.Exists T s) = (u : Term) → K Q u → K Q (substitute u s)
    IsKeptForm (connective.Not g) = Unit {0}
    IsKeptForm connective.Atomic = Unit {0}

    if_form : (b : Bool) (x y : Connective) → IsKeptForm x → IsKeptForm y → IsKeptForm (if b then x else y)
    if_form true x y h k = h
    if_form false x y h k = k

    opens_form : (a : Term) → K Q a → (u : Term) → K Q u → K Q (substitute u (connective.body_of a))
    opens_form a h u k = (family.keeps Q).reduces (body_opens a u) ((family.keeps Q).applies a u h k)

    constant_form : (c : ℕ) (ts : List Ty) (us : List Term) → EachOf (K Q) us → IsKeptForm (connective_of_constant c ts us)
    constant_form c ts [] h = if_form (nat_eq c 6) _ _ tt (if_form (nat_eq c 7) _ _ tt tt)
    constant_form c (T ∷ []) (a ∷ []) h = if_form (nat_eq c 4) _ _ (opens_form a h.0) (if_form (nat_eq c 5) _ _ (opens_form a h.0) tt)
    constant_form c [] (a ∷ []) h = if_form (nat_eq c 24) _ _ tt tt
    constant_form c [] (a ∷ b ∷ []) h = if_form (nat_eq c 0) _ _ (h.0, h.1.0) (if_form (nat_eq c 1) _ _ (h.0, h.1.0) (if_form (nat_eq c 2) _ _ tt (if_form (nat_eq c 3) _ _ tt tt)))
    constant_form c [] (a ∷ b ∷ x ∷ us) h = tt
    constant_form c (T ∷ []) (a ∷ b ∷ us) h = tt
    constant_form c (T ∷ U ∷ ts) (a ∷ []) h = tt
    constant_form c (T ∷ U ∷ ts) (a ∷ b ∷ us) h = tt

    pub form_kept : (t : Term) → K Q t → IsKeptForm (connective_of t)
    form_kept t h = go (head_of t) refl
      where
        go : (x : Term) → head_of t ≡ x → IsKeptForm (connective_at x (arguments t))
        go (atom (constant c ts)) e = constant_form c ts (arguments t) (arguments_kept t (transport IsHead (sym e) tt) h).1
        go (atom (integer z)) e = tt
        go (atom (text s)) e = tt
        go (atom (eigen k)) e = tt
        go (atom (logic x l)) e = tt
        go (atom (param k T)) e = tt
        go (index i) e = tt
        go (abs b) e = tt
        go (app f a) e = tt

    -- slots and pairs of a clause that is tried
    pub slotted_kept : (ss : List Slot) → EachOf (λ s. K Q s.term) ss → (next level i : ℕ) → K Q (slotted ss next level i)
    slotted_kept [] h next level i = (family.keeps Q).free (next + i) level
    slotted_kept (s ∷ ss) h next level i = go (nat_eq i s.variable) (slotted_kept ss h.1 next level i)
      where
        go : (b : Bool) → K Q (slotted ss next level i) → K Q (if b then s.term else slotted ss next level i)
        go true k = h.0
        go false k = k

    slot_kept : (h t : Term) → K Q t → K Q (slot_of h t).term
    slot_kept (index i) t k = k
    slot_kept (atom a) t k = k
    slot_kept (abs b) t k = k
    slot_kept (app f a) t k = k

    pub slots_kept : (earlier hs ts : List Term) → EachOf (K Q) ts → EachOf (λ s. K Q s.term) (slots_of earlier hs ts)
    slots_kept earlier [] ts w = tt
    slots_kept earlier (h ∷ hs) [] w = tt
    slots_kept earlier (h ∷ hs) (t ∷ ts) w = go (is_new h earlier) (slots_kept (h ∷ earlier) hs ts w.1)
      where
        go : (b : Bool) → EachOf (λ s. K Q s.term) (slots_of (h ∷ earlier) hs ts) → EachOf (λ s. K Q s.term) (if b then slot_of h t ∷ slots_of (h ∷ earlier) hs ts else slots_of (h ∷ earlier) hs ts)
        go true k = (slot_kept h t w.0, k)
        go false k = k

    pub pairs_kept : (σ : ℕ → Term) → ((i : ℕ) → K Q (σ i)) → (level : ℕ) (earlier hs ts : List Term) → EachOf (K Q) hs → EachOf (K Q) ts → EachOf (GoodPair K family Q) (pairs_of σ level earlier hs ts)
    pairs_kept σ f level earlier [] ts v w = tt
    pairs_kept σ f level earlier (h ∷ hs) [] v w = tt
    pairs_kept σ f level earlier (h ∷ hs) (t ∷ ts) v w = go (is_new h earlier) (pairs_kept σ f level (h ∷ earlier) hs ts v.1 w.1)
      where
        go : (b : Bool) → EachOf (GoodPair K family Q) (pairs_of σ level (h ∷ earlier) hs ts) →
            EachOf (GoodPair K family Q) (if b then pairs_of σ level (h ∷ earlier) hs ts else record { left = t; right = instantiate σ h; level = level } ∷ pairs_of σ level (h ∷ earlier) hs ts)
        go true k = k
        go false k = (record { left = w.0; right = (family.keeps Q).instances σ f h v.0 }, k)
