-- The types that a typed clause binds and that are written in it have its own type variables alone.
use Rattle.std.proofs.Common.{Bool, true, false, ℕ, suc, List, [], ◌∷◌, ◌++◌, map, sym, subst}
use Rattle.lp_calculus.specs.Instance.{instance_term}
use Rattle.lp_calculus.specs.Types.{Ty, Tys, var, param as type_param, con, arrow, no_types, types, instance, instances}
use Rattle.lp_calculus.specs.Term.{Term, index, atom, abs, app, constant, integer, text, eigen, logic, param}
use Rattle.lp_lemmas.specs.Each.{EachOf}
use Rattle.lp_lemmas.proofs.Each.{each_append}
use Rattle.lp_model.specs.Flat.{Goal, Atomic, Cut, Either, Exists, Forall, Assume, Not, Goals, no_goals, goals, clause, Clauses, no_clauses, clauses, collect_clauses, collect_goal, collect_goals, map_clauses, map_goal, map_goals, of_each, type_variables, type_variables_in, types_variables, under_all}
use Rattle.lp_model.specs.Index.{instantiate, lifted}
use Rattle.lp_proof_laws.specs.Filled.{filled_term}
use Rattle.lp_unify_laws.specs.TypesBelow.{IsTypeBelow as TypeBelow, AreTysBelow as TysBelow, AreTypesBelow as TypesBelow}
use Rattle.lp_search_laws.specs.Branches.{AreClauses, AreGoals, IsGoal, IsPlainTerm}
use Rattle.lp_search_laws.specs.Written.{AreWrittenClauses, AreWrittenGoals, IsWrittenGoal}
use Rattle.lp_plain.specs.Resuming.{AllTys, TysOfClauses, TysOfGoal, TysOfGoals}
use Rattle.lp_plain.specs.Written.{AreTypesBelow, AreTysBelow, IsTypeBelow}

mutual
  pub type_below : (k : ℕ) (T : Ty) → TypeBelow k T → IsTypeBelow k T
  type_below k (var i) h = h
  type_below k (type_param n) h = tt
  type_below k (con c ts) h = types_below k ts h
  type_below k (arrow a b) h = (type_below k a h.0, type_below k b h.1)

  types_below : (k : ℕ) (ts : Tys) → TysBelow k ts → AreTysBelow k ts
  types_below k no_types h = tt
  types_below k (types t ts) h = (type_below k t h.0, types_below k ts h.1)

pub list_below : (k : ℕ) (ts : List Ty) → TypesBelow k ts → AreTypesBelow k ts
list_below k [] h = tt
list_below k (t ∷ ts) h = (type_below k t h.0, list_below k ts h.1)

-- types for the type variables that stand somewhere
module _ (k : ℕ) (θ : ℕ → Ty) where
  abbrev R : ℕ → Type 0
  R i = TypeBelow k (θ i)

  mutual
    type_vars : (T : Ty) → TypeBelow k (instance θ T) → EachOf R (type_variables T)
    type_vars (var i) h = (h, tt)
    type_vars (type_param n) h = tt
    type_vars (con c ts) h = types_vars ts h
    type_vars (arrow a b) h = each_append R (type_variables a) (type_variables b) (type_vars a h.0) (type_vars b h.1)

    types_vars : (ts : Tys) → TysBelow k (instances θ ts) → EachOf R (types_variables ts)
    types_vars no_types h = tt
    types_vars (types t ts) h = each_append R (type_variables t) (types_variables ts) (type_vars t h.0) (types_vars ts h.1)

  list_vars : (ts : List Ty) → TypesBelow k (map (instance θ) ts) → EachOf R (of_each type_variables ts)
  list_vars [] h = tt
  list_vars (t ∷ ts) h = each_append R (type_variables t) (of_each type_variables ts) (type_vars t h.0) (list_vars ts h.1)

  -- a term without what is put for its indices
  before_put : (σ : ℕ → Term) (t : Term) → IsPlainTerm k (instantiate σ t) → IsPlainTerm k t
  before_put σ (index i) h = tt
  before_put σ (atom a) h = h
  before_put σ (abs b) h = before_put (lifted σ) b h
  before_put σ (app t u) h = (before_put σ t h.0, before_put σ u h.1)

  instance_vars : (t : Term) → IsPlainTerm k (instance_term θ t) → EachOf R (type_variables_in t)
  instance_vars (index i) h = tt
  instance_vars (atom (constant c ts)) h = list_vars ts h.1
  instance_vars (atom (integer z)) h = tt
  instance_vars (atom (text s)) h = tt
  instance_vars (atom (eigen n)) h = tt
  instance_vars (atom (logic x l)) h = tt
  instance_vars (atom (param n T)) h = type_vars T h
  instance_vars (abs b) h = instance_vars b h
  instance_vars (app t u) h = each_append R (type_variables_in t) (type_variables_in u) (instance_vars t h.0) (instance_vars u h.1)

  term_vars : (σ : ℕ → Term) (t : Term) → IsPlainTerm k (filled_term θ σ t) → EachOf R (type_variables_in t)
  term_vars σ t h = instance_vars t (before_put σ (instance_term θ t) h)

  mutual
    goal_vars : (B : List Bool) (σ : ℕ → Term) (d : ℕ) (g : Goal) → IsGoal k B (map_goal lifted (filled_term θ) (instance θ) σ g) → EachOf R (collect_goal (λ n t. type_variables_in t) d g)
    goal_vars B σ d (Atomic t) h = term_vars σ t h
    goal_vars B σ d Cut h = tt
    goal_vars B σ d (Either gs hs) h = each_append R (collect_goals (λ n t. type_variables_in t) d gs)
        (collect_goals (λ n t. type_variables_in t) d hs) (goals_vars B σ d gs h.0) (goals_vars B σ d hs h.1)
    goal_vars B σ d (Exists T gs) h = goals_vars (false ∷ B) (lifted σ) (suc d) gs h.1
    goal_vars B σ d (Forall T gs) h = goals_vars (true ∷ B) (lifted σ) (suc d) gs h.1
    goal_vars B σ d (Assume w cs gs) h = each_append R (collect_clauses (λ n t. type_variables_in t) d cs)
        (collect_goals (λ n t. type_variables_in t) d gs) (clauses_vars B σ d cs h.0) (goals_vars B σ d gs h.1)
    goal_vars B σ d (Not w gs) h = goals_vars B σ d gs h

    goals_vars : (B : List Bool) (σ : ℕ → Term) (d : ℕ) (gs : Goals) → AreGoals k B (map_goals lifted (filled_term θ) (instance θ) σ gs) → EachOf R (collect_goals (λ n t. type_variables_in t) d gs)
    goals_vars B σ d no_goals h = tt
    goals_vars B σ d (goals g gs) h = each_append R (collect_goal (λ n t. type_variables_in t) d g) (collect_goals (λ n t. type_variables_in t) d gs) (goal_vars B σ d g h.0) (goals_vars B σ d gs h.1)

    clauses_vars : (B : List Bool) (σ : ℕ → Term) (d : ℕ) (cs : Clauses) → AreClauses k B (map_clauses lifted (filled_term θ) (instance θ) σ cs) →
        EachOf R (collect_clauses (λ n t. type_variables_in t) d cs)
    clauses_vars B σ d no_clauses h = tt
    clauses_vars B σ d (clauses (clause n vs x b) cs) h =
        each_append R (type_variables_in x ++ collect_goals (λ n t. type_variables_in t) (under_all suc vs d) b) (collect_clauses (λ n t. type_variables_in t) d cs)
        (each_append R (type_variables_in x) (collect_goals (λ n t. type_variables_in t) (under_all suc vs d) b)
        (term_vars (under_all lifted vs σ) x h.1.2) (goals_vars _ (under_all lifted vs σ) (under_all suc vs d) b h.1.3))
        (clauses_vars B σ d cs h.2)

  tys_of : (is : List ℕ) → EachOf R is → AllTys (IsTypeBelow k) (map θ is)
  tys_of [] h = tt
  tys_of (i ∷ is) h = (type_below k (θ i) h.0, tys_of is h.1)

tys_all : (k : ℕ) (ts : List Ty) → TypesBelow k ts → AllTys (IsTypeBelow k) ts
tys_all k [] h = tt
tys_all k (t ∷ ts) h = (type_below k t h.0, tys_all k ts h.1)

module _ (k : ℕ) where
  mutual
    tys_of_goal : (B : List Bool) (g : Goal) → IsGoal k B g → IsWrittenGoal g → TysOfGoal (IsTypeBelow k) g
    tys_of_goal B (Atomic t) h w = tt
    tys_of_goal B Cut h w = tt
    tys_of_goal B (Either gs hs) h w = (tys_of_goals B gs h.0 w.0, tys_of_goals B hs h.1 w.1)
    tys_of_goal B (Exists T gs) h w = (type_below k T h.0, tys_of_goals (false ∷ B) gs h.1 w)
    tys_of_goal B (Forall T gs) h w = (type_below k T h.0, tys_of_goals (true ∷ B) gs h.1 w)
    tys_of_goal B (Assume v cs gs) h w =
        let o = w.3 in (
          subst (AllTys (IsTypeBelow k)) (sym o.types_written) (tys_of k o.types _ (clauses_vars k o.types B o.terms 0 o.flat (subst (AreClauses k B) o.is h.0))),
          tys_of_clauses B cs h.0 w.1,
          tys_of_goals B gs h.1 w.2,
        )
    tys_of_goal B (Not v gs) h w =
        let o = w.2 in
        (subst (AllTys (IsTypeBelow k)) (sym o.types_written) (tys_of k o.types _ (goals_vars k o.types B o.terms 0 o.flat (subst (AreGoals k B) o.is h))), tys_of_goals B gs h w.1)

    pub tys_of_goals : (B : List Bool) (gs : Goals) → AreGoals k B gs → AreWrittenGoals gs → TysOfGoals (IsTypeBelow k) gs
    tys_of_goals B no_goals h w = tt
    tys_of_goals B (goals g gs) h w = (tys_of_goal B g h.0 w.0, tys_of_goals B gs h.1 w.1)

    tys_of_clauses : (B : List Bool) (cs : Clauses) → AreClauses k B cs → AreWrittenClauses cs → TysOfClauses (IsTypeBelow k) cs
    tys_of_clauses B no_clauses h w = tt
    tys_of_clauses B (clauses (clause n vs x b) cs) h w = ((tys_all k vs h.1.0, tys_of_goals _ b h.1.3 w.0), tys_of_clauses B cs h.2 w.1)
