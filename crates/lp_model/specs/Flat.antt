-- Flattened clauses and goals. Their variables are de Bruijn indices: a clause binds as many as it has types, the innermost first,
-- and `Exists` and `Forall` bind one each. How they read as formulas, and terms and types put into them.
use Rattle.std.specs.Prelude.{ℕ, zero, suc, ◌-◌, nat_lt, if◌then◌else◌, List, [], ◌∷◌, ◌++◌, map}
use Rattle.lp_calculus.specs.Types.{Ty, Tys, var, param as type_param, con, arrow, no_types, types, instance}
use Rattle.lp_calculus.specs.Term.{Term, index, atom, abs, app, constant, integer, text, eigen, logic, param, shift}
use Rattle.lp_calculus.specs.Fill.{Binding, put}
use Rattle.lp_calculus.specs.Instance.{instance_term}
use Rattle.lp_model.specs.Index.{instantiate, lifted}
use Rattle.lp_standard.specs.Numbers as number
use Rattle.lp_standard.specs.Connectives.{truth, cut, two, pi_of, sigma_of, not_of}

-- terms for the variables and types for the type variables that are written in goals or clauses
pub record Written : Type 0 where
  pub terms : List Term
  pub types : List Ty

mutual
  pub data Goal : Type 0 where
    Atomic : Term → Goal
    Cut : Goal
    Either : (left right : Goals) → Goal
    Exists : Ty → Goals → Goal
    Forall : Ty → Goals → Goal
    -- with what stands for the variables and the type variables that are written in the clauses
    Assume : Written → Clauses → Goals → Goal
    -- the goals are not all provable, with what stands for the variables and the type variables that are written in them
    Not : Written → Goals → Goal

  -- all of them are to be proved, the first one first
  pub data Goals : Type 0 where
    no_goals : Goals
    goals : Goal → Goals → Goals

  pub data Clause : Type 0 where
    clause : (type_vars : ℕ) → (vars : List Ty) → (head : Term) → (body : Goals) → Clause

  pub data Clauses : Type 0 where
    no_clauses : Clauses
    clauses : Clause → Clauses → Clauses

abbrev pub goal_list : Goals → List Goal
goal_list no_goals = []
goal_list (goals g gs) = g ∷ goal_list gs

abbrev pub clause_list : Clauses → List Clause
clause_list no_clauses = []
clause_list (clauses c cs) = c ∷ clause_list cs

abbrev pub add_goals : Goals → Goals → Goals
add_goals no_goals hs = hs
add_goals (goals g gs) hs = goals g (add_goals gs hs)

abbrev pub add_clauses : Clauses → Clauses → Clauses
add_clauses no_clauses ds = ds
add_clauses (clauses c cs) ds = clauses c (add_clauses cs ds)

abbrev pub map_written : (Term → Term) → (Ty → Ty) → Written → Written
map_written term ty w = record { terms = map term w.terms; types = map ty w.types }

-- a change of terms that goes below binders by `under`, once for each variable bound
abbrev pub under_all : {E A : Type 0} → (E → E) → List A → E → E
under_all under [] e = e
under_all under (v ∷ vs) e = under (under_all under vs e)

abbrev mutual
  pub map_goal : {E : Type 0} → (under : E → E) → (term : E → Term → Term) → (ty : Ty → Ty) → E → Goal → Goal
  map_goal under term ty e (Atomic t) = Atomic (term e t)
  map_goal under term ty e Cut = Cut
  map_goal under term ty e (Either gs hs) = Either (map_goals under term ty e gs) (map_goals under term ty e hs)
  map_goal under term ty e (Exists T gs) = Exists (ty T) (map_goals under term ty (under e) gs)
  map_goal under term ty e (Forall T gs) = Forall (ty T) (map_goals under term ty (under e) gs)
  map_goal under term ty e (Assume w cs gs) = Assume (map_written (term e) ty w) (map_clauses under term ty e cs) (map_goals under term ty e gs)
  map_goal under term ty e (Not w gs) = Not (map_written (term e) ty w) (map_goals under term ty e gs)

  pub map_goals : {E : Type 0} → (under : E → E) → (term : E → Term → Term) → (ty : Ty → Ty) → E → Goals → Goals
  map_goals under term ty e no_goals = no_goals
  map_goals under term ty e (goals g gs) = goals (map_goal under term ty e g) (map_goals under term ty e gs)

  pub map_clause : {E : Type 0} → (under : E → E) → (term : E → Term → Term) → (ty : Ty → Ty) → E → Clause → Clause
  map_clause under term ty e (clause n vs h b) = clause n (map ty vs) (term (under_all under vs e) h) (map_goals under term ty (under_all under vs e) b)

  pub map_clauses : {E : Type 0} → (under : E → E) → (term : E → Term → Term) → (ty : Ty → Ty) → E → Clauses → Clauses
  map_clauses under term ty e no_clauses = no_clauses
  map_clauses under term ty e (clauses c cs) = clauses (map_clause under term ty e c) (map_clauses under term ty e cs)

abbrev pub same_type : Ty → Ty
same_type T = T

-- the indices from `from` on raised by one
abbrev pub raise_goals : (from : ℕ) → Goals → Goals
raise_goals from gs = map_goals suc (λ d t. shift d 1 t) same_type from gs

-- terms for the loose indices
abbrev pub instantiate_goals : (ℕ → Term) → Goals → Goals
instantiate_goals f gs = map_goals lifted instantiate same_type f gs

abbrev pub instantiate_clauses : (ℕ → Term) → Clauses → Clauses
instantiate_clauses f cs = map_clauses lifted instantiate same_type f cs

-- a binding, and types for type variables: what is put has no loose index
abbrev pub put_goal : Binding → Goal → Goal
put_goal b g = map_goal (λ u. u) (λ u t. put b t) same_type zero g

abbrev pub put_clause : Binding → Clause → Clause
put_clause b c = map_clause (λ u. u) (λ u t. put b t) same_type zero c

abbrev pub type_goal : (ℕ → Ty) → Goal → Goal
type_goal θ g = map_goal (λ u. u) (λ u t. instance_term θ t) (instance θ) zero g

abbrev pub type_goals : (ℕ → Ty) → Goals → Goals
type_goals θ gs = map_goals (λ u. u) (λ u t. instance_term θ t) (instance θ) zero gs

abbrev pub type_clauses : (ℕ → Ty) → Clauses → Clauses
type_clauses θ cs = map_clauses (λ u. u) (λ u t. instance_term θ t) (instance θ) zero cs

abbrev pub type_clause : (ℕ → Ty) → Clause → Clause
type_clause θ c = map_clause (λ u. u) (λ u t. instance_term θ t) (instance θ) zero c

-- how they read as formulas

abbrev pub all_of : List Ty → Term → Term
all_of [] t = t
all_of (T ∷ Ts) t = all_of Ts (pi_of T (abs t))

abbrev mutual
  pub formula_of_goal : Goal → Term
  formula_of_goal (Atomic t) = t
  formula_of_goal Cut = cut
  formula_of_goal (Either gs hs) = two number.Or [] (formula_of_goals gs) (formula_of_goals hs)
  formula_of_goal (Exists T gs) = sigma_of T (abs (formula_of_goals gs))
  formula_of_goal (Forall T gs) = pi_of T (abs (formula_of_goals gs))
  formula_of_goal (Assume w cs gs) = two number.Implies [] (formula_of_clauses cs) (formula_of_goals gs)
  formula_of_goal (Not w gs) = not_of (formula_of_goals gs)

  pub formula_of_goals : Goals → Term
  formula_of_goals no_goals = truth
  formula_of_goals (goals g no_goals) = formula_of_goal g
  formula_of_goals (goals g (goals h gs)) = two number.And [] (formula_of_goal g) (formula_of_goals (goals h gs))

  -- a fact is its head
  pub formula_of_clause : Clause → Term
  formula_of_clause (clause n vs h no_goals) = all_of vs h
  formula_of_clause (clause n vs h (goals g gs)) = all_of vs (two number.Implies [] (formula_of_goals (goals g gs)) h)

  pub formula_of_clauses : Clauses → Term
  formula_of_clauses no_clauses = truth
  formula_of_clauses (clauses c no_clauses) = formula_of_clause c
  formula_of_clauses (clauses c (clauses d cs)) = two number.And [] (formula_of_clause c) (formula_of_clauses (clauses d cs))

-- what is written in goals and clauses, each place by itself

-- the indices that are loose at a depth, counted from there
abbrev pub loose_in : ℕ → Term → List ℕ
loose_in d (index i) = if nat_lt i d then [] else (i - d) ∷ []
loose_in d (atom a) = []
loose_in d (abs b) = loose_in (suc d) b
loose_in d (app t u) = loose_in d t ++ loose_in d u

abbrev mutual
  pub type_variables : Ty → List ℕ
  type_variables (var i) = i ∷ []
  type_variables (type_param k) = []
  type_variables (con c ts) = types_variables ts
  type_variables (arrow a b) = type_variables a ++ type_variables b

  pub types_variables : Tys → List ℕ
  types_variables no_types = []
  types_variables (types t ts) = type_variables t ++ types_variables ts

abbrev pub of_each : {A : Type 0} → (A → List ℕ) → List A → List ℕ
of_each f [] = []
of_each f (x ∷ xs) = f x ++ of_each f xs

-- the type variables in the type arguments of constants and in the types of parameters
abbrev pub type_variables_in : Term → List ℕ
type_variables_in (index i) = []
type_variables_in (atom (constant c ts)) = of_each type_variables ts
type_variables_in (atom (integer z)) = []
type_variables_in (atom (text s)) = []
type_variables_in (atom (eigen k)) = []
type_variables_in (atom (logic x l)) = []
type_variables_in (atom (param k t)) = type_variables t
type_variables_in (abs b) = type_variables_in b
type_variables_in (app t u) = type_variables_in t ++ type_variables_in u

-- what a fold over the terms gives, each with the number of binders that it stands under; variables that goals and clauses bind are none of theirs
abbrev mutual
  pub collect_goal : (ℕ → Term → List ℕ) → ℕ → Goal → List ℕ
  collect_goal f d (Atomic t) = f d t
  collect_goal f d Cut = []
  collect_goal f d (Either gs hs) = collect_goals f d gs ++ collect_goals f d hs
  collect_goal f d (Exists T gs) = collect_goals f (suc d) gs
  collect_goal f d (Forall T gs) = collect_goals f (suc d) gs
  collect_goal f d (Assume w cs gs) = collect_clauses f d cs ++ collect_goals f d gs
  collect_goal f d (Not w gs) = collect_goals f d gs

  pub collect_goals : (ℕ → Term → List ℕ) → ℕ → Goals → List ℕ
  collect_goals f d no_goals = []
  collect_goals f d (goals g gs) = collect_goal f d g ++ collect_goals f d gs

  pub collect_clauses : (ℕ → Term → List ℕ) → ℕ → Clauses → List ℕ
  collect_clauses f d no_clauses = []
  collect_clauses f d (clauses (clause n vs h b) cs) = (f (under_all suc vs d) h ++ collect_goals f (under_all suc vs d) b) ++ collect_clauses f d cs

-- each variable stands for itself
abbrev pub written_by : (indices type_vars : List ℕ) → Written
written_by is js = record { terms = map index is; types = map var js }

abbrev pub written_in_goals : Goals → Written
written_in_goals gs = written_by (collect_goals loose_in 0 gs) (collect_goals (λ d t. type_variables_in t) 0 gs)

abbrev pub written_in_clauses : Clauses → Written
written_in_clauses cs = written_by (collect_clauses loose_in 0 cs) (collect_clauses (λ d t. type_variables_in t) 0 cs)

-- goals that are denied, and clauses that are assumed, as they are written
abbrev pub denied : Goals → Goal
denied gs = Not (written_in_goals gs) gs

abbrev pub assuming : Clauses → Goals → Goal
assuming cs gs = Assume (written_in_clauses cs) cs gs
