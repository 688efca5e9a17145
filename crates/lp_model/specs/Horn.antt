-- Clauses and queries of the Horn fragment: atoms whose arguments are constants and variables.
use Rattle.std.specs.Prelude.{◌≡◌, ℕ, ◌≤◌, nat_eq, if◌then◌else◌, List, [], ◌∷◌, length, Option, Some, None, slice_get}
use Rattle.lp_calculus.specs.Types.{Ty, arrow}
use Rattle.lp_calculus.specs.Term.{Term, index, atom, abs, app, apply, constant, integer, text, eigen, logic, param}
use Rattle.lp_calculus.specs.Typing.{Scheme, Context, Typed, scheme_type, o_type}
use Rattle.lp_calculus.specs.Closed.{IsClosedAt}
use Rattle.lp_standard.specs.Positive.{IsPositive}
use Rattle.lp_standard.specs.Constants.{first_declared}
use Rattle.lp_lemmas.specs.Each.{EachOf}

-- a flattened clause: its variables are the indices below their number. X says what is kept of them: their types, or only how many they are
pub record ClauseOf (X : Type 0) : Type 0 where
  pub vars : X
  pub head : Term
  pub body : List Term

pub record QueryOf (X : Type 0) : Type 0 where
  pub vars : X
  pub goals : List Term

-- with the types of the variables
abbrev pub Clause : Type 0
Clause = ClauseOf (List Ty)

abbrev pub Query : Type 0
Query = QueryOf (List Ty)

-- with the number of the variables
abbrev pub Horn : Type 0
Horn = ClauseOf ℕ

abbrev pub HornQuery : Type 0
HornQuery = QueryOf ℕ

abbrev pub counted : Clause → Horn
counted c = record { vars = length c.vars; head = c.head; body = c.body }

abbrev pub counted_query : Query → HornQuery
counted_query q = record { vars = length q.vars; goals = q.goals }

-- the declared type of each constant, by its number
abbrev pub Declared : Type 0
Declared = ℕ → Option Scheme

-- typing where the logic variables, all of level 0, have these types, and there is no eigenconstant
abbrev pub over : Declared → List Ty → Context
over d V = record { declared = d; eigens = []; variables = λ x l. if nat_eq l 0 then slice_get V x else None }

-- a declared constant without type arguments, a logic variable of level 0, or a variable of a clause
abbrev pub IsSimple : Term → Type 0
IsSimple (index i) = Unit {0}
IsSimple (atom (constant c ts)) = (ts ≡ []) × (first_declared ≤ c)
IsSimple (atom (logic x l)) = l ≡ 0
IsSimple (atom (integer z)) = ⊥
IsSimple (atom (text s)) = ⊥
IsSimple (atom (eigen k)) = ⊥
IsSimple (atom (param k t)) = ⊥
IsSimple (abs b) = ⊥
IsSimple (app t u) = ⊥

-- an argument, where the logic variables have the types V, and the clause's variables the types C
pub record IsArgument (d : Declared) (V C : List Ty) (t : Term) (T : Ty) : Type 0 where
  pub simple : IsSimple t
  pub typed : Typed (over d V) C t T

abbrev pub AreArguments : Declared → (V C : List Ty) → List Term → List Ty → Type 0
AreArguments d V C [] [] = Unit {0}
AreArguments d V C (t ∷ ts) (T ∷ Ts) = IsArgument d V C t T × AreArguments d V C ts Ts
AreArguments d V C [] (T ∷ Ts) = ⊥
AreArguments d V C (t ∷ ts) [] = ⊥

-- the type of what takes these arguments to a U
abbrev pub arrows : List Ty → Ty → Ty
arrows [] U = U
arrows (T ∷ Ts) U = arrow T (arrows Ts U)

-- an atom: a declared predicate on as many arguments as declared, of the declared types
pub record IsAtom (d : Declared) (V C : List Ty) (g : Term) : Type 0 where
  pub name : ℕ
  pub args : List Term
  pub types : List Ty
  pub is : g ≡ apply (atom (constant name [])) args
  pub declared : scheme_type [] (d name) ≡ Some (arrows types o_type)
  pub typed : AreArguments d V C args types

pub record IsClause (d : Declared) (c : Clause) : Type 0 where
  pub head : IsAtom d [] c.vars c.head
  pub body : EachOf (IsAtom d [] c.vars) c.body

pub record IsQuery (d : Declared) (q : Query) : Type 0 where
  pub goals : EachOf (IsAtom d [] q.vars) q.goals

-- what may be put for a variable of type T: a closed positive term of type T of the whole calculus, parameters among them
pub record IsValue (d : Declared) (t : Term) (T : Ty) : Type 0 where
  pub typed : Typed (over d []) [] t T
  pub closed : IsClosedAt 0 t
  pub positive : IsPositive t

abbrev pub AreValues : Declared → List Term → List Ty → Type 0
AreValues d [] [] = Unit {0}
AreValues d (t ∷ ts) (T ∷ Ts) = IsValue d t T × AreValues d ts Ts
AreValues d [] (T ∷ Ts) = ⊥
AreValues d (t ∷ ts) [] = ⊥
