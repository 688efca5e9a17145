-- The type and the scope that the search gives each variable; its level is the length of the scope. A query's variables have its types and no scope. A goal that binds a
-- variable gives it the type that stands there, and the types of the eigenconstants of its place as the scope; a clause that is tried does so for its variables, in the
-- place of the goal. What unification adds has types and scopes with which its bindings are typed; types that it finds are put in everywhere.
use Rattle.std.specs.Prelude.{◌≡◌, ◌⊎◌, ℕ, List, [], ◌∷◌, ◌++◌, map, length, Option, Some, None}
use Rattle.lp_calculus.specs.Types.{Ty}
use Rattle.lp_calculus.specs.Term.{Term}
use Rattle.lp_lemmas.specs.Each.{AnyOf}
use Rattle.lp_standard.specs.Connectives.{Connective, connective_of}
use Rattle.lp_standard.specs.Connectives as connective
use Rattle.lp_model.specs.Types.{TypePair}
use Rattle.lp_model.specs.Look.{head_normal}
use Rattle.lp_model.specs.Pair.{Pair}
use Rattle.lp_model.specs.Unify.{State, Solution, solve, unit_limit}
use Rattle.lp_model.specs.Flat.{Goal, Atomic, Cut, Either, Exists, Forall, Assume, Not, Goals, Clause, clause}
use Rattle.lp_model.specs.Skeleton.{View, Gives, Opens, Parts, Takes, Cuts, Denies, Halts, Lacks}
use Rattle.lp_model.specs.Branch.{Entry, Branch, Answer, Task, resume}
use Rattle.lp_model.specs.Search.{with_goals, look}
use Rattle.lp_model.specs.Answers.{Query, Variable, AnswerTyping, TypedAnswer}
use Rattle.lp_model.specs.Proofs.{Declared}
use Rattle.lp_unify_laws.specs.Solutions.{IsMore, AreTypedBindings, instance_binding}
use Rattle.lp_search_laws.specs.Behind.{types_of, variables_of, eigens_of}
use Rattle.lp_search_laws.specs.Begun.{first_branch, first_typing}
use Rattle.lp_search_laws.specs.Branches.{BranchTyping, TypedTask, going, trying, stopping, lacking, task_of, answer_of}
use Rattle.lp_search_laws.specs.Tries.{tried_typing, tried_branch_of}

-- what a goal binds where it is taken apart
pub data Bound : Type 0 where
  Nothing : Bound
  OneVariable : Ty → Bound
  OneEigenconstant : Ty → Bound

abbrev pub bound_by_form : Connective → Bound
bound_by_form (connective.ForAll T s) = OneEigenconstant T
bound_by_form (connective.Exists T s) = OneVariable T
bound_by_form connective.True = Nothing
bound_by_form connective.Cut = Nothing
bound_by_form (connective.And a b) = Nothing
bound_by_form (connective.Or a b) = Nothing
bound_by_form (connective.Implies a b) = Nothing
bound_by_form (connective.Not g) = Nothing
bound_by_form connective.Atomic = Nothing

abbrev pub bound_by_normal : Option Term → Bound
bound_by_normal None = Nothing
bound_by_normal (Some t) = bound_by_form (connective_of t)

abbrev pub bound_by : (n : ℕ) → Goal → Bound
bound_by n (Exists T gs) = OneVariable T
bound_by n (Forall T gs) = OneEigenconstant T
bound_by n (Atomic t) = bound_by_normal (head_normal n t)
bound_by n Cut = Nothing
bound_by n (Either gs hs) = Nothing
bound_by n (Assume w cs gs) = Nothing
bound_by n (Not w gs) = Nothing

abbrev pub variables_with : Bound → (E : List Ty) → List Variable → List Variable
variables_with Nothing E V = V
variables_with (OneVariable T) E V = V ++ record { type = T; scope = E } ∷ []
variables_with (OneEigenconstant T) E V = V

abbrev pub eigens_with : Bound → List Ty → List Ty
eigens_with Nothing E = E
eigens_with (OneVariable T) E = E
eigens_with (OneEigenconstant T) E = E ++ T ∷ []

-- entries in the place of a goal g at eigenconstants of the types E: the variables W in the place of V, and the types of the eigenconstants of each
pub record IsPut (n : ℕ) (g : Goal) (E : List Ty) (V W : List Variable) (fs : List Entry) (Fs : List (List Ty)) : Type 0 where
  pub variables : W ≡ variables_with (bound_by n g) E V
  pub eigens : Fs ≡ map (λ f. eigens_with (bound_by n g) E) fs

-- the branch c is the branch b with entries in the place of the goal g, in front of es; types, values and pairs are those of before
pub record IsInPlace (n : ℕ) (g : Goal) (z : AnswerTyping) (E : List Ty) (Es : List (List Ty)) (es : List Entry) (b : Branch) (y : BranchTyping) (c : Branch) : Type 0 where
  pub front : List Entry
  pub types : List (List Ty)
  pub goals : c.goals ≡ front ++ es
  pub eigens : y.eigens ≡ types ++ Es
  pub put : IsPut n g E z.variables y.answer.variables front types
  pub pairs : y.answer.pairs ≡ z.pairs
  pub found : (c.types ≡ b.types) × (c.values ≡ b.values) × (c.pairs ≡ b.pairs)

-- the branch c that unification leaves of b
pub record IsLeftBehind (n : ℕ) (d : Declared) (x : BranchTyping) (b : Branch) (y : BranchTyping) (c : Branch) : Type 0 where
  pub equations : List TypePair
  pub pairs : List Pair
  pub state : State
  pub solved : solve n unit_limit equations pairs b.pairs b.next ≡ Some (Solution state)
  pub is : c ≡ resume b state
  pub more : IsMore (variables_of (types_of state.types) x.answer.variables) y.answer.variables
  pub bindings : AreTypedBindings d y.answer.variables (map (instance_binding (types_of state.types)) state.bindings)
  pub eigens : y.eigens ≡ eigens_of (types_of state.types) x.eigens

abbrev pub IsTypedFromFirst : (n : ℕ) → Declared → AnswerTyping → List (List Ty) → Branch → List Entry → BranchTyping → Branch → Type 0
IsTypedFromFirst n d z (E ∷ Es) b (e ∷ es) y c = IsInPlace n e.goal z E Es es b y c ⊎ IsLeftBehind n d (record { answer = z; eigens = Es }) (with_goals b es) y c
IsTypedFromFirst n d z [] b es y c = ⊥
IsTypedFromFirst n d z (E ∷ Es) b [] y c = ⊥

abbrev pub IsTypedFromTry : (n : ℕ) → Declared → BranchTyping → List (List Ty) → Clause → Term → Entry → Branch → (mark : ℕ) → BranchTyping → Branch → Type 0
IsTypedFromTry n d x (E ∷ Es) (clause k vs h g) t e b mark y c = IsLeftBehind n d (tried_typing x E Es k vs h g t e b) (tried_branch_of x.answer.variables k vs h g t e b mark) y c
IsTypedFromTry n d x [] (clause k vs h g) t e b mark y c = ⊥

-- U is left of T by one look, and is typed as the search gives it
abbrev pub IsTypedFrom : (n : ℕ) → Declared → (T U : TypedTask) → Type 0
IsTypedFrom n d T (stopping x U) = Unit {0}
IsTypedFrom n d T (lacking U) = Unit {0}
IsTypedFrom n d (going x b) (going y c) = IsTypedFromFirst n d x.answer x.eigens b b.goals y c
IsTypedFrom n d (going x b) (trying y k t e c mark) = y ≡ x
IsTypedFrom n d (trying x k t e b mark) (going y c) = IsTypedFromTry n d x x.eigens k t e b mark y c
IsTypedFrom n d (trying x k t e b mark) (trying y l u f c m) = ⊥
IsTypedFrom n d (stopping x T) (going y c) = ⊥
IsTypedFrom n d (stopping x T) (trying y l u f c m) = ⊥
IsTypedFrom n d (lacking T) (going y c) = ⊥
IsTypedFrom n d (lacking T) (trying y l u f c m) = ⊥

-- one of the tasks that a view leaves; the search of a negated goal is none of them
abbrev pub IsLeftBy : View Task Answer → Task → Type 0
IsLeftBy (Gives a) u = ⊥
IsLeftBy (Opens ts) u = AnyOf (λ t. t ≡ u) ts
IsLeftBy (Parts ts) u = AnyOf (λ t. t ≡ u) ts
IsLeftBy (Takes name ts) u = AnyOf (λ t. t ≡ u) ts
IsLeftBy (Cuts m ts) u = AnyOf (λ t. t ≡ u) ts
IsLeftBy (Denies t f ts) u = AnyOf (λ t. t ≡ u) ts
IsLeftBy (Halts e) u = ⊥
IsLeftBy Lacks u = ⊥

-- the search comes from T to U
pub data Reaches (n : ℕ) (d : Declared) (P : List Clause) : (T U : TypedTask) → Type 0 where
  at_once : {T U : TypedTask} → T ≡ U → Reaches n d P T U
  by_look : {T U : TypedTask} (height : ℕ) (S : TypedTask) → IsLeftBy (look unit_limit n P height (task_of T)) (task_of S) → IsTypedFrom n d T S → Reaches n d P S U → Reaches n d P T U

-- the answer of a branch without goals to which the search comes from T, with the typing that it gives
pub record IsGivenFrom (n : ℕ) (d : Declared) (P : List Clause) (T : TypedTask) (a : TypedAnswer) : Type 0 where
  pub typing : BranchTyping
  pub branch : Branch
  pub reached : Reaches n d P T (going typing branch)
  pub done : branch.goals ≡ []
  pub answer : a.answer ≡ answer_of branch
  pub is : a.typing ≡ typing.answer

-- from the query
abbrev pub IsGiven : (n : ℕ) → Declared → (P : List Clause) → Query → Goals → TypedAnswer → Type 0
IsGiven n d P q gs a = IsGivenFrom n d P (going (first_typing q gs) (first_branch q.type_vars (length q.vars) gs)) a
