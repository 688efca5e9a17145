-- Flattened clauses and goals of which there is code: they are well typed over the tables and in normal form, hold no eigenconstant, logic variable or
-- parameter, and are within the limits of instructions.
use Rattle.std.specs.Prelude.{◌≡◌, ℕ, zero, suc, ◌<◌, ◌≤◌, Bool, true, false, List, [], ◌∷◌, ◌++◌, map, max, All, Option, Some, None}
use Rattle.lp_calculus.specs.Types.{Ty, Tys, var, param as type_param, con, arrow, no_types, types}
use Rattle.lp_calculus.specs.Term.{Term, Atom, index, atom, abs, app, constant, integer, text, eigen, logic, param}
use Rattle.lp_calculus.specs.Convert.{leftmost_step}
use Rattle.lp_calculus.specs.Typing.{Scheme, o_type, atom_type, HasType}
use Rattle.lp_calculus.specs.Spine.{head_of, arguments}
use Rattle.lp_standard.specs.Connectives.{connective_of}
use Rattle.lp_standard.specs.Connectives as connective
use Rattle.lp_standard.specs.Positive.{are_positive}
use Rattle.lp_model.specs.Flat.{Goal, Atomic, Cut, Either, Exists, Forall, Assume, Not, Goals, no_goals, goals, Clause, clause, Clauses, no_clauses, clauses}
use Rattle.lp_model.specs.Flatten.{is_goal_head, is_clause_head}
use Rattle.lp_code.specs.Symbolic.{Tables}

-- the types of atoms: none but constants, integers and texts are asked for
abbrev pub types_by : Tables → Atom → Option Ty
types_by t a = atom_type (record { declared = t.constants; eigens = []; variables = λ x l. None }) a

-- each kind has its count of arguments, and the type variables are those below a number
abbrev mutual
  pub IsKnownType : (kinds : ℕ → Option ℕ) → (vars : ℕ) → Ty → Type 0
  IsKnownType κ n (var i) = i < n
  IsKnownType κ n (type_param k) = ⊥
  IsKnownType κ n (con k ts) = (m : ℕ) × (κ k ≡ Some m) × AreKnownTypes κ n m ts
  IsKnownType κ n (arrow a b) = IsKnownType κ n a × IsKnownType κ n b

  pub AreKnownTypes : (kinds : ℕ → Option ℕ) → (vars count : ℕ) → Tys → Type 0
  AreKnownTypes κ n m no_types = m ≡ 0
  AreKnownTypes κ n zero (types t ts) = ⊥
  AreKnownTypes κ n (suc m) (types t ts) = IsKnownType κ n t × AreKnownTypes κ n m ts

-- each constant has a type in which the kinds have their counts of arguments
abbrev pub AreKnownSchemes : Tables → Type 0
AreKnownSchemes t = (c : ℕ) (s : Scheme) → t.constants c ≡ Some s → IsKnownType t.kinds s.count s.body

-- its constants, integers and texts alone, with known types
abbrev pub IsKnownAtom : (kinds : ℕ → Option ℕ) → (vars : ℕ) → Atom → Type 0
IsKnownAtom κ n (constant c ts) = All (IsKnownType κ n) ts
IsKnownAtom κ n (integer z) = Unit {0}
IsKnownAtom κ n (text s) = Unit {0}
IsKnownAtom κ n (eigen k) = ⊥
IsKnownAtom κ n (logic x l) = ⊥
IsKnownAtom κ n (param k T) = ⊥

-- `m` is the number of arguments that it stands before, of which there are at most 255, and `d` how deep it may nest
abbrev pub IsKnownTerm : (kinds : ℕ → Option ℕ) → (vars d m : ℕ) → Term → Type 0
IsKnownTerm κ n d m (index i) = Unit {0}
IsKnownTerm κ n d m (atom a) = IsKnownAtom κ n a
IsKnownTerm κ n zero m (abs b) = ⊥
IsKnownTerm κ n (suc d) m (abs b) = IsKnownTerm κ n d 0 b
IsKnownTerm κ n zero m (app t u) = ⊥
IsKnownTerm κ n (suc d) m (app t u) = (m < 255) × IsKnownTerm κ n (suc d) (suc m) t × IsKnownTerm κ n d 0 u

-- what a list of goals and clauses stands under: the number of type variables, the types of the indices, and whether each is a variable of a `pi`
pub record Under : Type 0 where
  pub type_vars : ℕ
  pub indices : List Ty
  pub binders : List Bool

-- one variable more, innermost
abbrev pub bound : Under → Ty → Bool → Under
bound u T is_pi = record u { indices = T ∷ u.indices; binders = is_pi ∷ u.binders }

abbrev pub all_bound : Under → List Ty → Under
all_bound u Ts = record u { indices = Ts ++ u.indices; binders = map (λ T. false) Ts ++ u.binders }

-- an atom that is a goal or a head
pub record IsAtom (t : Tables) (u : Under) (a : Term) : Type 0 where
  pub typed : HasType (types_by t) u.indices a o_type
  pub known : IsKnownTerm t.kinds u.type_vars 2000 0 a
  pub normal : leftmost_step a ≡ None
  pub positive : are_positive (arguments a) ≡ true

abbrev pub ends_list : Goal → Goals → Type 0
ends_list (Exists T gs) rest = rest ≡ no_goals
ends_list g rest = Unit {0}

-- a `sigma` takes what follows into its scope
abbrev mutual
  pub IsGoal : Tables → Under → Goal → Type 0
  IsGoal t u (Atomic a) = IsAtom t u a × (connective_of a ≡ connective.Atomic) × (is_goal_head (head_of a) ≡ true)
  IsGoal t u Cut = Unit {0}
  IsGoal t u (Either gs hs) = AreGoals t u gs × AreGoals t u hs
  IsGoal t u (Exists T gs) = IsKnownType t.kinds u.type_vars T × AreGoals t (bound u T false) gs
  IsGoal t u (Forall T gs) = IsKnownType t.kinds u.type_vars T × AreGoals t (bound u T true) gs
  IsGoal t u (Assume w cs gs) = AreAssumed t u cs × AreGoals t u gs
  IsGoal t u (Not w gs) = AreGoals t u gs

  pub AreGoals : Tables → Under → Goals → Type 0
  AreGoals t u no_goals = Unit {0}
  AreGoals t u (goals g gs) = IsGoal t u g × ends_list g gs × AreGoals t u gs

  -- an assumed clause has no type variables of its own
  pub AreAssumed : Tables → Under → Clauses → Type 0
  AreAssumed t u no_clauses = Unit {0}
  AreAssumed t u (clauses (clause n vs h b) cs) =
      (n ≡ 0) × All (IsKnownType t.kinds u.type_vars) vs × IsAtom t (all_bound u vs) h ×
      (is_clause_head t.constants (all_bound u vs).binders (head_of h) ≡ true) × AreGoals t (all_bound u vs) b × AreAssumed t u cs

-- how deep blocks nest, those of `sigma` not counted
abbrev mutual
  pub goal_depth : Goal → ℕ
  goal_depth (Atomic a) = 0
  goal_depth Cut = 0
  goal_depth (Either gs hs) = suc (max (goals_depth gs) (goals_depth hs))
  goal_depth (Exists T gs) = goals_depth gs
  goal_depth (Forall T gs) = suc (goals_depth gs)
  goal_depth (Assume w cs gs) = suc (max (clauses_depth cs) (goals_depth gs))
  goal_depth (Not w gs) = suc (goals_depth gs)

  pub goals_depth : Goals → ℕ
  goals_depth no_goals = 0
  goals_depth (goals g gs) = max (goal_depth g) (goals_depth gs)

  pub clauses_depth : Clauses → ℕ
  clauses_depth no_clauses = 0
  clauses_depth (clauses (clause n vs h b) cs) = max (goals_depth b) (clauses_depth cs)

-- a clause of a program
abbrev pub IsClause : Tables → Clause → Type 0
IsClause t (clause n vs h b) = AreAssumed t (record { type_vars = n; indices = []; binders = [] }) (clauses (clause 0 vs h b) no_clauses) × (goals_depth b ≤ 2000)

-- a query with its type variables and the types of its variables, the innermost first
abbrev pub IsQuery : Tables → (type_vars : ℕ) → (vars : List Ty) → Goals → Type 0
IsQuery t n vs gs = All (IsKnownType t.kinds n) vs × AreGoals t (record { type_vars = n; indices = vs; binders = map (λ T. false) vs }) gs × (goals_depth gs ≤ 2000)
