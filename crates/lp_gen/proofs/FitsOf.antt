-- Goals of which there is code fit: as they stand, and where less is known of indices.
use Rattle.std.proofs.Common.{◌≡◌, ◌≤◌, ℕ, zero, suc, ◌+◌, ◌-◌, List, [], ◌∷◌, ◌++◌, map, Bool, true, false, Option, Some, subst, arith}
use Rattle.std.specs.Prelude.{slice_get}
use Rattle.lp_calculus.specs.Types.{Ty}
use Rattle.lp_calculus.specs.Term.{Term, Atom, index, atom, abs, app}
use Rattle.lp_calculus.specs.Typing.{o_type, HasType}
use Rattle.lp_model.specs.Flat.{Goal, Goals, Clauses, Atomic, Cut, Either, Exists, Forall, Assume, Not, no_goals, goals, clause, no_clauses, clauses, under_all}
use Rattle.lp_code.specs.declared.record.Record.{Record}
use Rattle.lp_code.specs.Symbolic.{Tables}
use Rattle.lp_code.specs.States.{Home}
use Rattle.lp_code.specs.Denote.{home_of}
use Rattle.lp_gen.specs.Sources.{types_by, Under, bound, all_bound, IsAtom, IsGoal, AreGoals, AreAssumed}
use Rattle.lp_gen.specs.Limits.{goal_strings, goals_strings, clauses_strings}
use Rattle.lp_gen.specs.inner.TermLaw.{AllLoose, KnownAtoms}
use Rattle.lp_gen.specs.inner.Bodies.{IsThrough, AreThrough, AllThrough}
use Rattle.lp_gen.specs.inner.BodyLaw.{one_more, more_of, GoalFits, GoalsFit, ClausesFit}
use Rattle.lp_gen.specs.inner.OpenGoals.{EndsGoal, EndsGoals}
use Rattle.lp_gen.proofs.TermListed.{known_atoms}

-- loose indices of a typed term have types
pub typed_loose : (τ : Atom → Option Ty) (D : List Ty) (Q : ℕ → Type 0) (d : ℕ) (t : Term) (T : Ty) → HasType τ D t T → ((i : ℕ) (U : Ty) → slice_get D i ≡ Some U → d ≤ i → Q (i - d)) → AllLoose Q d t
typed_loose τ D Q d (index i) T x f = λ le. f i T x le
typed_loose τ D Q d (atom s) T x f = tt
typed_loose τ D Q d (abs b) T (A, B, e, x) f = typed_loose τ (A ∷ D) Q (suc d) b B x below
  where
    below : (i : ℕ) (U : Ty) → slice_get (A ∷ D) i ≡ Some U → suc d ≤ i → Q (i - suc d)
    below zero U g le = absurd (omega (arith, le))
    below (suc i) U g le = let z : i - d ≡ suc i - suc d = omega arith in subst Q z (f i U g (omega (arith, le)))
typed_loose τ D Q d (app t u) T (A, x, y) f = (typed_loose τ D Q d t (Rattle.lp_calculus.specs.Types.arrow A T) x f, typed_loose τ D Q d u A y f)

abbrev Holds : List Ty → (ℕ → Type 0) → Type 0
Holds Γ Q = (i : ℕ) (U : Ty) → slice_get Γ i ≡ Some U → Q i

one_holds : (Γ : List Ty) (T : Ty) (Q : ℕ → Type 0) → Holds Γ Q → Holds (T ∷ Γ) (one_more Q)
one_holds Γ T Q f zero U e = tt
one_holds Γ T Q f (suc i) U e = f i U e

pub all_hold : (vs Γ : List Ty) (Q : ℕ → Type 0) → Holds Γ Q → Holds (vs ++ Γ) (more_of vs Q)
all_hold [] Γ Q f = f
all_hold (T ∷ Ts) Γ Q f = one_holds (Ts ++ Γ) T (more_of Ts Q) (all_hold Ts Γ Q f)

loose_of : (h : Home) (u : Under) (Q : ℕ → Type 0) (t : Term) → IsAtom h.tables u t → Holds u.indices Q → AllLoose Q 0 t
loose_of h u Q t x f = typed_loose (types_by h.tables) u.indices Q 0 t o_type x.typed (λ i U e le. let z : i ≡ i - 0 = omega arith in subst Q z (f i U e))

module _ (h : Home) where
  mutual
    goal_ends : (u : Under) (g : Goal) → IsGoal h.tables u g → EndsGoal g
    goal_ends u (Atomic t) x = tt
    goal_ends u Cut x = tt
    goal_ends u (Either gs hs) x = (goals_end u gs x.0, goals_end u hs x.1)
    goal_ends u (Exists T gs) x = goals_end (bound u T false) gs x.1
    goal_ends u (Forall T gs) x = goals_end (bound u T true) gs x.1
    goal_ends u (Assume w cs gs) x = goals_end u gs x.1
    goal_ends u (Not w gs) x = goals_end u gs x

    pub goals_end : (u : Under) (gs : Goals) → AreGoals h.tables u gs → EndsGoals gs
    goals_end u no_goals x = tt
    goals_end u (goals g gs) x = (goal_ends u g x.0, x.1, goals_end u gs x.2)

  mutual
    goal_fits : (u : Under) (Q : ℕ → Type 0) (g : Goal) → IsGoal h.tables u g → goal_strings g ≡ 0 → Holds u.indices Q → GoalFits h u.type_vars u.indices u.binders Q g
    goal_fits u Q (Atomic t) (x, atomic, headed) e f = record {
      typed = x.typed;
      normal = x.normal;
      known = known_atoms h.tables.kinds u.type_vars 2000 0 t x.known e;
      positive = x.positive;
      atomic = atomic;
      headed = headed;
      loose = loose_of h u Q t x f;
    }
    goal_fits u Q Cut x e f = tt
    goal_fits u Q (Either gs hs) x e f = (goals_fit u Q gs x.0 (omega (arith, e)) f, goals_fit u Q hs x.1 (omega (arith, e)) f)
    goal_fits u Q (Exists T gs) x e f = (x.0, goals_fit (bound u T false) (one_more Q) gs x.1 e (one_holds u.indices T Q f))
    goal_fits u Q (Forall T gs) x e f = (x.0, goals_fit (bound u T true) (one_more Q) gs x.1 e (one_holds u.indices T Q f))
    goal_fits u Q (Assume w cs gs) x e f = (clauses_fit u Q cs x.0 (omega (arith, e)) f, goals_fit u Q gs x.1 (omega (arith, e)) f)
    goal_fits u Q (Not w gs) x e f = goals_fit u Q gs x e f

    pub goals_fit : (u : Under) (Q : ℕ → Type 0) (gs : Goals) → AreGoals h.tables u gs → goals_strings gs ≡ 0 → Holds u.indices Q → GoalsFit h u.type_vars u.indices u.binders Q gs
    goals_fit u Q no_goals x e f = tt
    goals_fit u Q (goals g gs) x e f = (goal_fits u Q g x.0 (omega (arith, e)) f, goals_fit u Q gs x.2 (omega (arith, e)) f)

    pub clauses_fit : (u : Under) (Q : ℕ → Type 0) (cs : Clauses) → AreAssumed h.tables u cs → clauses_strings cs ≡ 0 → Holds u.indices Q → ClausesFit h u.type_vars u.indices u.binders Q cs
    clauses_fit u Q no_clauses x e f = tt
    clauses_fit u Q (clauses (clause n vs t b) cs) (none, known, head, headed, body, others) e f = (
      none,
      known,
      record {
        typed = head.typed;
        normal = head.normal;
        known = known_atoms h.tables.kinds u.type_vars 2000 0 t head.known (omega (arith, e));
        positive = head.positive;
        headed = headed;
        loose = loose_of h (all_bound u vs) (more_of vs Q) t head (all_hold vs u.indices Q f);
      },
      goals_fit (all_bound u vs) (more_of vs Q) b body (omega (arith, e)) (all_hold vs u.indices Q f),
      goals_end (all_bound u vs) b body,
      clauses_fit u Q cs others (omega (arith, e)) f,
    )

-- with more that is known of indices

abbrev Joins : (Q R S : ℕ → Type 0) → ℕ → Type 0
Joins Q R S d = (i : ℕ) → Q i → (d ≤ i → R (i - d)) → S i

one_joins : (Q R S : ℕ → Type 0) (d : ℕ) → Joins Q R S d → Joins (one_more Q) R (one_more S) (suc d)
one_joins Q R S d f zero q r = tt
one_joins Q R S d f (suc i) q r = f i q (λ le. let z : suc i - suc d ≡ i - d = omega arith in subst R z (r (omega (arith, le))))

all_join : (vs : List Ty) (Q R S : ℕ → Type 0) (d : ℕ) → Joins Q R S d → Joins (more_of vs Q) R (more_of vs S) (under_all suc vs d)
all_join [] Q R S d f = f
all_join (T ∷ Ts) Q R S d f = one_joins (more_of Ts Q) R (more_of Ts S) (under_all suc Ts d) (all_join Ts Q R S d f)

loose_joined : (Q R S : ℕ → Type 0) (d e f : ℕ) (t : Term) → f ≡ e + d → Joins Q R S d → AllLoose Q e t → AllLoose R f t → AllLoose S e t
loose_joined Q R S d e f (index i) z j x y = λ le. j (i - e) (x le) (λ l. let q : i - f ≡ i - e - d = omega (arith, z, le) in subst R q (y (omega (arith, z, le, l))))
loose_joined Q R S d e f (atom s) z j x y = tt
loose_joined Q R S d e f (abs b) z j x y = loose_joined Q R S d (suc e) (suc f) b (omega (arith, z)) j x y
loose_joined Q R S d e f (app t u) z j x y = (loose_joined Q R S d e f t z j x.0 y.0, loose_joined Q R S d e f u z j x.1 y.1)

module _ (h : Home) (vars : ℕ) (R : ℕ → Type 0) where
  mutual
    goal_joined : (Q S : ℕ → Type 0) (Γ : List Ty) (B : List Bool) (d : ℕ) (g : Goal) → Joins Q R S d → GoalFits h vars Γ B Q g → IsThrough (AllLoose R) d g → GoalFits h vars Γ B S g
    goal_joined Q S Γ B d (Atomic t) j x y = record {
      typed = x.typed;
      normal = x.normal;
      known = x.known;
      positive = x.positive;
      atomic = x.atomic;
      headed = x.headed;
      loose = loose_joined Q R S d 0 d t (omega arith) j x.loose y;
    }
    goal_joined Q S Γ B d Cut j x y = tt
    goal_joined Q S Γ B d (Either gs hs) j x y = (goals_joined Q S Γ B d gs j x.0 y.0, goals_joined Q S Γ B d hs j x.1 y.1)
    goal_joined Q S Γ B d (Exists T gs) j x y = (x.0, goals_joined (one_more Q) (one_more S) (T ∷ Γ) (false ∷ B) (suc d) gs (one_joins Q R S d j) x.1 y)
    goal_joined Q S Γ B d (Forall T gs) j x y = (x.0, goals_joined (one_more Q) (one_more S) (T ∷ Γ) (true ∷ B) (suc d) gs (one_joins Q R S d j) x.1 y)
    goal_joined Q S Γ B d (Assume w cs gs) j x y = (clauses_joined Q S Γ B d cs j x.0 y.0, goals_joined Q S Γ B d gs j x.1 y.1)
    goal_joined Q S Γ B d (Not w gs) j x y = goals_joined Q S Γ B d gs j x y

    pub goals_joined : (Q S : ℕ → Type 0) (Γ : List Ty) (B : List Bool) (d : ℕ) (gs : Goals) → Joins Q R S d → GoalsFit h vars Γ B Q gs → AreThrough (AllLoose R) d gs → GoalsFit h vars Γ B S gs
    goals_joined Q S Γ B d no_goals j x y = tt
    goals_joined Q S Γ B d (goals g gs) j x y = (goal_joined Q S Γ B d g j x.0 y.0, goals_joined Q S Γ B d gs j x.1 y.1)

    pub clauses_joined : (Q S : ℕ → Type 0) (Γ : List Ty) (B : List Bool) (d : ℕ) (cs : Clauses) → Joins Q R S d → ClausesFit h vars Γ B Q cs →
        AllThrough (AllLoose R) d cs → ClausesFit h vars Γ B S cs
    clauses_joined Q S Γ B d no_clauses j x y = tt
    clauses_joined Q S Γ B d (clauses (clause n vs t gs) cs) j (none, known, head, body, ends, others) y = (
      none,
      known,
      record {
        typed = head.typed;
        normal = head.normal;
        known = head.known;
        positive = head.positive;
        headed = head.headed;
        loose = loose_joined (more_of vs Q) R (more_of vs S) (under_all suc vs d) 0 (under_all suc vs d) t (omega arith) (all_join vs Q R S d j) head.loose y.0;
      },
      goals_joined (more_of vs Q) (more_of vs S) (vs ++ Γ) (map (λ T. false) vs ++ B) (under_all suc vs d) gs (all_join vs Q R S d j) body y.1,
      ends,
      clauses_joined Q S Γ B d cs j others y.2,
    )

-- it does not matter which record of the same ones they are asked for

module _ (T : Tables) (all : List Record) (m n : ℕ) (r s : Record) (vars : ℕ) where
  mutual
    goal_home : (Γ : List Ty) (B : List Bool) (Q : ℕ → Type 0) (g : Goal) → GoalFits (home_of T all m r) vars Γ B Q g → GoalFits (home_of T all n s) vars Γ B Q g
    goal_home Γ B Q (Atomic t) x = record { typed = x.typed; normal = x.normal; known = x.known; positive = x.positive; atomic = x.atomic; headed = x.headed; loose = x.loose }
    goal_home Γ B Q Cut x = tt
    goal_home Γ B Q (Either gs hs) x = (goals_home Γ B Q gs x.0, goals_home Γ B Q hs x.1)
    goal_home Γ B Q (Exists T gs) x = (x.0, goals_home (T ∷ Γ) (false ∷ B) (one_more Q) gs x.1)
    goal_home Γ B Q (Forall T gs) x = (x.0, goals_home (T ∷ Γ) (true ∷ B) (one_more Q) gs x.1)
    goal_home Γ B Q (Assume w cs gs) x = (clauses_home Γ B Q cs x.0, goals_home Γ B Q gs x.1)
    goal_home Γ B Q (Not w gs) x = goals_home Γ B Q gs x

    goals_home : (Γ : List Ty) (B : List Bool) (Q : ℕ → Type 0) (gs : Goals) → GoalsFit (home_of T all m r) vars Γ B Q gs → GoalsFit (home_of T all n s) vars Γ B Q gs
    goals_home Γ B Q no_goals x = tt
    goals_home Γ B Q (goals g gs) x = (goal_home Γ B Q g x.0, goals_home Γ B Q gs x.1)

    pub clauses_home : (Γ : List Ty) (B : List Bool) (Q : ℕ → Type 0) (cs : Clauses) → ClausesFit (home_of T all m r) vars Γ B Q cs → ClausesFit (home_of T all n s) vars Γ B Q cs
    clauses_home Γ B Q no_clauses x = tt
    clauses_home Γ B Q (clauses (clause k vs t gs) cs) (none, known, head, body, ends, others) = (
      none,
      known,
      record { typed = head.typed; normal = head.normal; known = head.known; positive = head.positive; headed = head.headed; loose = head.loose },
      goals_home (vs ++ Γ) (map (λ T. false) vs ++ B) (more_of vs Q) gs body,
      ends,
      clauses_home Γ B Q cs others,
    )

-- of two predicates the second

module _ (κ : ℕ → Option ℕ) (n : ℕ) (P : ℕ → Type 0) where
  mutual
    goal_loose : (d : ℕ) (g : Goal) → IsThrough (λ e t. KnownAtoms κ n t × AllLoose P e t) d g → IsThrough (AllLoose P) d g
    goal_loose d (Atomic t) x = x.1
    goal_loose d Cut x = tt
    goal_loose d (Either gs hs) x = (goals_loose d gs x.0, goals_loose d hs x.1)
    goal_loose d (Exists T gs) x = goals_loose (suc d) gs x
    goal_loose d (Forall T gs) x = goals_loose (suc d) gs x
    goal_loose d (Assume w cs gs) x = (clauses_loose d cs x.0, goals_loose d gs x.1)
    goal_loose d (Not w gs) x = goals_loose d gs x

    pub goals_loose : (d : ℕ) (gs : Goals) → AreThrough (λ e t. KnownAtoms κ n t × AllLoose P e t) d gs → AreThrough (AllLoose P) d gs
    goals_loose d no_goals x = tt
    goals_loose d (goals g gs) x = (goal_loose d g x.0, goals_loose d gs x.1)

    clauses_loose : (d : ℕ) (cs : Clauses) → AllThrough (λ e t. KnownAtoms κ n t × AllLoose P e t) d cs → AllThrough (AllLoose P) d cs
    clauses_loose d no_clauses x = tt
    clauses_loose d (clauses (clause k vs t gs) cs) x = (x.0.1, goals_loose (under_all suc vs d) gs x.1, clauses_loose d cs x.2)
