-- Goal form, clause form and flattening of a beta-normal formula (Miller, Nadathur, Pfenning and Scedrov 1991: hereditary Harrop
-- formulas). None where the formula has not the form.
use Rattle.std.specs.Prelude.{ℕ, zero, suc, Bool, true, false, ◌&&◌, List, [], ◌∷◌, ◌++◌, map, Option, Some, None, option_map, slice_index_or}
use Rattle.lp_calculus.specs.Types.{Ty, var, param as type_param, con, arrow}
use Rattle.lp_calculus.specs.Term.{Term, index, atom, abs, app, shift, constant, integer, text, eigen, logic, param}
use Rattle.lp_calculus.specs.Typing.{Scheme}
use Rattle.lp_calculus.specs.Spine.{head_of, arguments}
use Rattle.lp_model.specs.Look.{◌>>=◌}
use Rattle.lp_model.specs.Eigens.{beta_normal}
use Rattle.lp_standard.specs.Constants.{is_declared}
use Rattle.lp_standard.specs.Connectives.{Connective, connective_of}
use Rattle.lp_standard.specs.Connectives as connective
use Rattle.lp_standard.specs.Positive.{are_positive}
use Rattle.lp_model.specs.Flat.{Atomic, Cut, Either, Exists, Forall, Goals, no_goals, goals, clause, Clauses, no_clauses, clauses, add_clauses, raise_goals, assuming, denied}

-- the declared type ends in `o`
abbrev pub ends_in_o : Ty → Bool
ends_in_o (arrow a b) = ends_in_o b
ends_in_o (con zero ts) = true
ends_in_o (con (suc c) ts) = false
ends_in_o (var i) = false
ends_in_o (type_param k) = false

abbrev pub heads_clauses : Option Scheme → Bool
heads_clauses None = false
heads_clauses (Some s) = ends_in_o s.body

-- an atom as a goal: its head is a constant or a variable, and its arguments are positive
abbrev pub is_goal_head : Term → Bool
is_goal_head (index i) = true
is_goal_head (atom (constant c ts)) = true
is_goal_head (atom (eigen k)) = true
is_goal_head (atom (logic x l)) = true
is_goal_head (atom (integer z)) = false
is_goal_head (atom (text s)) = false
is_goal_head (atom (param k t)) = false
is_goal_head (abs b) = false
is_goal_head (app f a) = false

abbrev pub only : {A : Type 0} → Bool → A → Option A
only true a = Some a
only false a = None

-- an atom as a clause: its head is a declared constant whose type ends in `o`, or a variable that a `pi` in goal position binds.
-- `binders` says of each index whether it is such a variable
abbrev pub is_clause_head : (ℕ → Option Scheme) → List Bool → Term → Bool
is_clause_head d binders (index i) = slice_index_or binders i false
is_clause_head d binders (atom (constant c ts)) = is_declared c && heads_clauses (d c)
is_clause_head d binders (atom (eigen k)) = false
is_clause_head d binders (atom (logic x l)) = false
is_clause_head d binders (atom (integer z)) = false
is_clause_head d binders (atom (text s)) = false
is_clause_head d binders (atom (param k t)) = false
is_clause_head d binders (abs b) = false
is_clause_head d binders (app f a) = false

-- n bounds the depth; `rest` stands behind the goal in its list
abbrev mutual
  pub flat_goal : ℕ → (ℕ → Option Scheme) → (binders : List Bool) → Term → (rest : Goals) → Option Goals
  flat_goal zero d binders t rest = None
  flat_goal (suc n) d binders t rest = flat_goal_form n d binders t (connective_of t) rest

  pub flat_goal_form : ℕ → (ℕ → Option Scheme) → (binders : List Bool) → Term → Connective → (rest : Goals) → Option Goals
  flat_goal_form zero d binders t f rest = None
  flat_goal_form (suc n) d binders t connective.True rest = Some rest
  flat_goal_form (suc n) d binders t connective.Cut rest = Some (goals Cut rest)
  flat_goal_form (suc n) d binders t (connective.And a b) rest = flat_goal n d binders b rest >>= flat_goal n d binders a
  flat_goal_form (suc n) d binders t (connective.Or a b) rest =
      flat_goal n d binders a no_goals >>= λ l. option_map (λ r. goals (Either l r) rest) (flat_goal n d binders b no_goals)
  flat_goal_form (suc n) d binders t (connective.Implies c g) rest =
      flat_clause n d binders c [] [] >>= λ cs. option_map (λ gs. goals (assuming cs gs) rest) (flat_goal n d binders g no_goals)
  flat_goal_form (suc n) d binders t (connective.ForAll T b) rest =
      option_map (λ gs. goals (Forall T gs) rest) (flat_goal n d (true ∷ binders) b no_goals)
  -- takes the goals that follow into its scope
  flat_goal_form (suc n) d binders t (connective.Exists T b) rest =
      option_map (λ gs. goals (Exists T gs) no_goals) (flat_goal n d (false ∷ binders) b (raise_goals 0 rest))
  flat_goal_form (suc n) d binders t (connective.Not g) rest = option_map (λ gs. goals (denied gs) rest) (flat_goal n d binders g no_goals)
  flat_goal_form (suc n) d binders t connective.Atomic rest = only (is_goal_head (head_of t) && are_positive (arguments t)) (goals (Atomic t) rest)

  -- the goals of a list of formulas, one behind the other
  pub flat_list : ℕ → (ℕ → Option Scheme) → (binders : List Bool) → List Term → Option Goals
  flat_list zero d binders ts = None
  flat_list (suc n) d binders [] = Some no_goals
  flat_list (suc n) d binders (t ∷ ts) = flat_list n d binders ts >>= flat_goal n d binders t

  -- `vars` are the variables so far, innermost first, and `body` the goals so far, the outermost first
  pub flat_clause : ℕ → (ℕ → Option Scheme) → (binders : List Bool) → Term → (vars : List Ty) → (body : List Term) → Option Clauses
  flat_clause zero d binders t vars body = None
  flat_clause (suc n) d binders t vars body = flat_clause_form n d binders t (connective_of t) vars body

  pub flat_clause_form : ℕ → (ℕ → Option Scheme) → (binders : List Bool) → Term → Connective → (vars : List Ty) → (body : List Term) → Option Clauses
  flat_clause_form zero d binders t f vars body = None
  flat_clause_form (suc n) d binders t (connective.And a b) vars body =
      flat_clause n d binders a vars body >>= λ l. option_map (add_clauses l) (flat_clause n d binders b vars body)
  flat_clause_form (suc n) d binders t (connective.Implies g c) vars body = flat_clause n d binders c vars (body ++ g ∷ [])
  flat_clause_form (suc n) d binders t (connective.ForAll T b) vars body = flat_clause n d (false ∷ binders) b (T ∷ vars) (map (shift 0 1) body)
  flat_clause_form (suc n) d binders t connective.Atomic vars body =
      only (is_clause_head d binders (head_of t) && are_positive (arguments t)) t >>= λ h. option_map (λ gs. clauses (clause 0 vars h gs) no_clauses) (flat_list n d binders body)
  flat_clause_form (suc n) d binders t connective.True vars body = None
  flat_clause_form (suc n) d binders t connective.Cut vars body = None
  flat_clause_form (suc n) d binders t (connective.Or a b) vars body = None
  flat_clause_form (suc n) d binders t (connective.Exists T b) vars body = None
  flat_clause_form (suc n) d binders t (connective.Not g) vars body = None

-- a clause formula of a program, with its count of type variables
pub record ClauseFormula : Type 0 where
  pub type_vars : ℕ
  pub formula : Term

-- the type variables of a sentence are those of each of its clauses; assumed clauses in it have none of their own
abbrev pub with_type_vars : ℕ → Clauses → Clauses
with_type_vars k no_clauses = no_clauses
with_type_vars k (clauses (clause n vs h b) cs) = clauses (clause k vs h b) (with_type_vars k cs)

-- the flattened clauses of a formula, by its beta-normal form
abbrev pub flatten : ℕ → (ℕ → Option Scheme) → ClauseFormula → Option Clauses
flatten n d c = beta_normal n c.formula >>= λ t. option_map (with_type_vars c.type_vars) (flat_clause n d [] t [] [])

-- the flattened goals of a query whose variables are its outermost indices
abbrev pub flatten_query : ℕ → (ℕ → Option Scheme) → Term → Option Goals
flatten_query n d t = beta_normal n t >>= λ s. flat_goal n d [] s no_goals
