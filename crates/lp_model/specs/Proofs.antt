-- Uniform proofs (Miller, Nadathur, Pfenning and Scedrov 1991) of raw formulas, as a test on a pair of trees: a proof of a goal, and a
-- focus on a clause for an atom. A negated goal is proved by a search of the goal that fails, which is a leaf (Clark 1978: negation as failure).
use Rattle.std.specs.Prelude.{◌≡◌, ℕ, suc, ◌≤◌, List, [], ◌∷◌, ◌++◌, length, take, drop, Option, Some, None, slice_get, Bool, true, false, ◌⊎◌, ℤ}
use Rattle.lp_calculus.specs.Types.{Ty}
use Rattle.lp_calculus.specs.Term.{Term, index, atom, abs, app, constant, integer, text, eigen, logic, param}
use Rattle.lp_calculus.specs.Convert.{Converts}
use Rattle.lp_calculus.specs.Typing.{Scheme, Context, Typed, o_type, type_at}
use Rattle.lp_calculus.specs.Instance.{instance_term}
use Rattle.lp_calculus.specs.Closed.{AreClosed, IsClosedType, IsClosedAt}
use Rattle.lp_standard.specs.Positive.{IsPositive}
use Rattle.lp_calculus.specs.Spine.{head_of}
use Rattle.lp_standard.specs.Numbers as number
use Rattle.lp_standard.specs.Constants.{first_declared}
use Rattle.lp_standard.specs.Connectives.{truth, cut, two, pi_of, sigma_of, not_of}
use Rattle.lp_model.specs.declared.ending.Ending.TheVariants.{NoMore}
use Rattle.lp_model.specs.Index.{instantiate}
use Rattle.lp_model.specs.Flat.{Goals, Clause, Clauses, Written, goal_list, clause_list, no_goals, instantiate_goals, instantiate_clauses, type_goals, type_clauses}
use Rattle.lp_model.specs.Flatten.{ClauseFormula, flat_goal, flat_clause, flatten}
use Rattle.lp_model.specs.Skeleton.{State, Told, starts_within, run}
use Rattle.lp_model.specs.Variables.{Variable, IsVariableBelow, IsFormulaOver}
use Rattle.lp_model.specs.Branch.{Answer, Task, Go, entries}
use Rattle.lp_model.specs.Search.{look}
use Rattle.lp_model.specs.Values.{Value, Number, HasValue, term_of, ordered}

abbrev pub Declared : Type 0
Declared = ℕ → Option Scheme

-- typing where eigenconstants have the types E, and there is no logic variable
abbrev pub under : Declared → (E : List Ty) → Context
under d E = record { declared = d; eigens = E; variables = λ x l. None }

-- a formula closed at the level of E
pub record IsFormula (d : Declared) (E : List Ty) (t : Term) : Type 0 where
  pub typed : Typed (under d E) [] t o_type
  pub closed : IsClosedAt (length E) t

-- a clause of a program, which may have type variables: with closed types for them it is a closed formula
pub record IsSentence (d : Declared) (D : ClauseFormula) : Type 0 where
  pub instances : (ts : List Ty) → length ts ≡ D.type_vars → AreClosed ts → IsFormula d [] (instance_term (type_at ts) D.formula)

-- what may be put for a variable of type T at the level of E: a positive closed term of the type
pub record IsWitness (d : Declared) (E : List Ty) (t : Term) (T : Ty) : Type 0 where
  pub typed : Typed (under d E) [] t T
  pub closed : IsClosedAt (length E) t
  pub positive : IsPositive t
  pub type_closed : IsClosedType T

-- a search: its limit on steps, on the units of a unification and on goals taken apart in a row, steps that are enough for each look and for the run, the
-- logic variables and the number of type variables over which it is typed (they stand only where reduction takes them away), its goals, the clauses of each
-- assumption in order with what is written in them, and its program
pub record Failure : Type 0 where
  pub limit : ℕ
  pub looks : ℕ
  pub moves : ℕ
  pub variables : List Variable
  pub next_type : ℕ
  pub goals : Goals
  pub assumed : List Clauses
  pub written : Written
  pub program : List Clause

mutual
  pub data Proof : Type 0 where
    -- of a formula that the goal converts to
    Conv : Term → Proof → Proof
    True : Proof
    And : Proof → Proof → Proof
    Left : Proof → Proof
    Right : Proof → Proof
    -- by a term for the variable of a `sigma`
    Witness : Term → Proof → Proof
    All : Proof → Proof
    Assume : Proof → Proof
    Equal : Proof
    Arith : Proof
    -- by a clause of the program with types for its type variables
    Back : (clause : ℕ) → (types : List Ty) → Focus → Proof
    -- of a negated goal, by a search that fails
    Fails : Failure → Proof

  pub data Focus : Type 0 where
    FConv : Term → Focus → Focus
    FAll : Term → Focus → Focus
    -- a side of a conjunction: the right one, where it is true
    FTake : Bool → Focus → Focus
    FNeed : Proof → Focus → Focus
    FHit : Focus

-- an atom whose head is a declared constant or an eigenconstant
abbrev pub IsAtomHead : Term → Type 0
IsAtomHead (atom (constant c ts)) = first_declared ≤ c
IsAtomHead (atom (eigen k)) = Unit {0}
IsAtomHead (atom (integer z)) = ⊥
IsAtomHead (atom (text s)) = ⊥
IsAtomHead (atom (logic x l)) = ⊥
IsAtomHead (atom (param k t)) = ⊥
IsAtomHead (index i) = ⊥
IsAtomHead (abs b) = ⊥
IsAtomHead (app t u) = ⊥

-- `t is e` at a type, or one of the orders of two integers
abbrev pub IsArith : Term → Type 0
IsArith G =
    ((T : Ty) × (t : Term) × (e : Term) × (v : Value) × (G ≡ two number.Is (T ∷ []) t e) × HasValue e v × Converts t (term_of v)) ⊎
    ((c : ℕ) × (e : Term) × (f : Term) × (a : ℤ) × (b : ℤ) × (number.Less ≤ c) × (c ≤ number.AtLeast) × (G ≡ two c [] e f) × HasValue e (Number a) × HasValue f (Number b) × (ordered c a b ≡ true))

-- the goal is `D => A`, or `A :- D`
abbrev pub IsImplication : Term → (D A : Term) → Type 0
IsImplication G D A = (G ≡ two number.Implies [] D A) ⊎ (G ≡ two number.If [] A D)

-- a closed formula without type variables of its own, as a clause
abbrev pub assumed : Term → ClauseFormula
assumed D = record { type_vars = 0; formula = D }

-- how a formula with variables is filled: types, and positive terms for the variables, of which each that heads a clause becomes an eigenconstant
pub record Filling : Type 0 where
  pub types : ℕ → Ty
  pub terms : ℕ → Term
  -- of each variable, whether it heads clauses
  pub heads : List Bool

pub record IsFilling (f : Filling) : Type 0 where
  pub positive : (i : ℕ) → IsPositive (f.terms i)
  pub heads : (i : ℕ) → slice_get f.heads i ≡ Some true → (k : ℕ) × (f.terms i ≡ atom (eigen k))

abbrev pub filled_formula : Filling → Term → Term
filled_formula f t = instantiate f.terms (instance_term f.types t)

-- the goals stand for the formula G: they are those of some formula with variables, filled, which filled in the same way is typed and converts to G
pub record StandsForGoal (d : Declared) (E : List Ty) (V : List Variable) (k : ℕ) (G : Term) (gs : Goals) : Type 0 where
  pub filling : Filling
  pub is_filling : IsFilling filling
  pub formula : Term
  pub typed : IsFormulaOver d E V k (filled_formula filling formula)
  pub converts : Converts (filled_formula filling formula) G
  pub depth : ℕ
  pub flat : Goals
  pub flattened : flat_goal depth d filling.heads formula no_goals ≡ Some flat
  pub is : gs ≡ instantiate_goals filling.terms (type_goals filling.types flat)

-- the same of clauses
pub record StandsForClause (d : Declared) (E : List Ty) (V : List Variable) (k : ℕ) (D : Term) (cs : Clauses) : Type 0 where
  pub filling : Filling
  pub is_filling : IsFilling filling
  pub formula : Term
  pub typed : IsFormulaOver d E V k (filled_formula filling formula)
  pub converts : Converts (filled_formula filling formula) D
  pub depth : ℕ
  pub flat : Clauses
  pub flattened : flat_clause depth d filling.heads formula [] [] ≡ Some flat
  pub is : cs ≡ instantiate_clauses filling.terms (type_clauses filling.types flat)

abbrev pub StandForClauses : Declared → (E : List Ty) → (V : List Variable) → (k : ℕ) → List ClauseFormula → List Clauses → Type 0
StandForClauses d E V k [] [] = Unit {0}
StandForClauses d E V k (D ∷ Ds) (cs ∷ css) = StandsForClause d E V k D.formula cs × StandForClauses d E V k Ds css
StandForClauses d E V k [] (cs ∷ css) = ⊥
StandForClauses d E V k (D ∷ Ds) [] = ⊥

-- these clauses are those of the formulas, in order
abbrev pub AreFlattened : Declared → List ClauseFormula → List Clause → Type 0
AreFlattened d [] P = P ≡ []
AreFlattened d (D ∷ Ds) P = (depth : ℕ) × (cs : Clauses) × (Q : List Clause) × (flatten depth d D ≡ Some cs) × AreFlattened d Ds Q × (P ≡ clause_list cs ++ Q)

-- the clauses of the last list first
abbrev pub newest_first : List Clauses → List Clause
newest_first [] = []
newest_first (cs ∷ css) = newest_first css ++ clause_list cs

-- what the search of the goals at a level tells
abbrev pub failure_state : (level : ℕ) → Failure → State Task
failure_state level f = starts_within f.limit (Go (record {
  next = length f.variables;
  next_type = f.next_type;
  goals = entries (goal_list f.goals) (newest_first f.assumed) f.written level 0;
  types = [];
  values = [];
  pairs = [];
})) f.limit 1

abbrev pub failure_told : (level : ℕ) → Failure → Told Answer
failure_told level f = run (look f.limit f.looks f.program) f.moves f.moves (failure_state level f)

-- a search that fails for the goal G at eigenconstants of the types E, where the first k formulas of P are the program and the others are assumed
pub record IsFailure (d : Declared) (k : ℕ) (E : List Ty) (P : List ClauseFormula) (G : Term) (f : Failure) : Type 0 where
  pub variables : (x : ℕ) (v : Variable) → slice_get f.variables x ≡ Some v → IsVariableBelow f.next_type v
  pub goals : StandsForGoal d E f.variables f.next_type G f.goals
  pub assumed : StandForClauses d E f.variables f.next_type (drop k P) f.assumed
  pub program : AreFlattened d (take k P) f.program
  pub ends : (failure_told (length E) f).ending ≡ Some NoMore
  pub gives_none : (failure_told (length E) f).answers ≡ []

-- which searches may stand as leaves, at eigenconstants of these types, where these are the clauses, for this goal
abbrev pub Leaves : Type 1
Leaves = (E : List Ty) → List ClauseFormula → Term → Failure → Type 0

-- E are the types of the eigenconstants, P the clauses
abbrev mutual
  pub proves_by : (L : Leaves) → Declared → (E : List Ty) → (P : List ClauseFormula) → (G : Term) → Proof → Type 0
  proves_by L d E P G (Conv H p) = IsFormula d E H × Converts H G × proves_by L d E P H p
  proves_by L d E P G True = (G ≡ truth) ⊎ (G ≡ cut)
  proves_by L d E P G (And p q) = (A : Term) × (B : Term) × (G ≡ two number.And [] A B) × proves_by L d E P A p × proves_by L d E P B q
  proves_by L d E P G (Left p) = (A : Term) × (B : Term) × (G ≡ two number.Or [] A B) × proves_by L d E P A p
  proves_by L d E P G (Right p) = (A : Term) × (B : Term) × (G ≡ two number.Or [] A B) × proves_by L d E P B p
  proves_by L d E P G (Witness t p) = (T : Ty) × (s : Term) × (G ≡ sigma_of T s) × IsWitness d E t T × proves_by L d E P (app s t) p
  proves_by L d E P G (All p) = (T : Ty) × (s : Term) × (G ≡ pi_of T s) × proves_by L d (E ++ T ∷ []) P (app s (atom (eigen (suc (length E))))) p
  proves_by L d E P G (Assume p) = (D : Term) × (A : Term) × IsImplication G D A × proves_by L d E (P ++ assumed D ∷ []) A p
  proves_by L d E P G Equal = (T : Ty) × (t : Term) × (u : Term) × (G ≡ two number.Equal (T ∷ []) t u) × Converts t u
  proves_by L d E P G Arith = IsArith G
  proves_by L d E P G (Back i ts f) = (D : ClauseFormula) × (slice_get P i ≡ Some D) × (length ts ≡ D.type_vars) × AreClosed ts × IsAtomHead (head_of G) × focuses_by L d E P (instance_term (type_at ts) D.formula) G f
  proves_by L d E P G (Fails f) = (H : Term) × (G ≡ not_of H) × L E P H f

  -- on the clause D for the atom A
  pub focuses_by : (L : Leaves) → Declared → (E : List Ty) → (P : List ClauseFormula) → (D A : Term) → Focus → Type 0
  focuses_by L d E P D A (FConv H f) = IsFormula d E H × Converts H D × focuses_by L d E P H A f
  focuses_by L d E P D A (FAll t f) = (T : Ty) × (s : Term) × (D ≡ pi_of T s) × IsWitness d E t T × focuses_by L d E P (app s t) A f
  focuses_by L d E P D A (FTake true f) = (B : Term) × (C : Term) × (D ≡ two number.And [] B C) × focuses_by L d E P C A f
  focuses_by L d E P D A (FTake false f) = (B : Term) × (C : Term) × (D ≡ two number.And [] B C) × focuses_by L d E P B A f
  focuses_by L d E P D A (FNeed p f) = (G : Term) × (B : Term) × IsImplication D G B × proves_by L d E P G p × focuses_by L d E P B A f
  focuses_by L d E P D A FHit = Converts D A

pub record ProvableBy (L : Leaves) (d : Declared) (E : List Ty) (P : List ClauseFormula) (G : Term) : Type 0 where
  pub proof : Proof
  pub holds : proves_by L d E P G proof

pub record FocusableBy (L : Leaves) (d : Declared) (E : List Ty) (P : List ClauseFormula) (D A : Term) : Type 0 where
  pub focus : Focus
  pub holds : focuses_by L d E P D A focus

-- the first k clauses of P are the program's
abbrev pub Provable : Declared → (k : ℕ) → (E : List Ty) → (P : List ClauseFormula) → (G : Term) → Type 0
Provable d k E P G = ProvableBy (IsFailure d k) d E P G

-- no search stands as a leaf
abbrev pub no_leaf : Leaves
no_leaf E P G f = ⊥

-- by a proof without failing searches
abbrev pub PlainlyProvable : Declared → (E : List Ty) → (P : List ClauseFormula) → (G : Term) → Type 0
PlainlyProvable d E P G = ProvableBy no_leaf d E P G

abbrev pub PlainlyFocusable : Declared → (E : List Ty) → (P : List ClauseFormula) → (D A : Term) → Type 0
PlainlyFocusable d E P D A = FocusableBy no_leaf d E P D A

-- each clause of P stands in R, maybe elsewhere
pub record Stands (P R : List ClauseFormula) : Type 0 where
  pub at : (i : ℕ) (D : ClauseFormula) → slice_get P i ≡ Some D → (j : ℕ) × (slice_get R j ≡ Some D)

-- how a formula is proved, where the proof does not begin with a conversion
pub data RootedBy (L : Leaves) (d : Declared) (E : List Ty) (P : List ClauseFormula) (G : Term) : Type 0 where
  trivially : (G ≡ truth) ⊎ (G ≡ cut) → RootedBy L d E P G
  both_sides : (A B : Term) → G ≡ two number.And [] A B → ProvableBy L d E P A → ProvableBy L d E P B → RootedBy L d E P G
  left_side : (A B : Term) → G ≡ two number.Or [] A B → ProvableBy L d E P A → RootedBy L d E P G
  right_side : (A B : Term) → G ≡ two number.Or [] A B → ProvableBy L d E P B → RootedBy L d E P G
  at_witness : (T : Ty) → (s t : Term) → G ≡ sigma_of T s → IsWitness d E t T → ProvableBy L d E P (app s t) → RootedBy L d E P G
  for_all : (T : Ty) → (s : Term) → G ≡ pi_of T s → ProvableBy L d (E ++ T ∷ []) P (app s (atom (eigen (suc (length E))))) → RootedBy L d E P G
  under_assumption : (D A : Term) → IsImplication G D A → ProvableBy L d E (P ++ assumed D ∷ []) A → RootedBy L d E P G
  equally : (T : Ty) → (t u : Term) → G ≡ two number.Equal (T ∷ []) t u → Converts t u → RootedBy L d E P G
  by_arithmetic : IsArith G → RootedBy L d E P G
  by_clause : (i : ℕ) → (D : ClauseFormula) → (ts : List Ty) → slice_get P i ≡ Some D → length ts ≡ D.type_vars → AreClosed ts → IsAtomHead (head_of G) → FocusableBy L d E P (instance_term (type_at ts) D.formula) G → RootedBy L d E P G
  by_failure : (H : Term) → G ≡ not_of H → (f : Failure) → L E P H f → RootedBy L d E P G

abbrev pub Rooted : Declared → (k : ℕ) → (E : List Ty) → (P : List ClauseFormula) → (G : Term) → Type 0
Rooted d k E P G = RootedBy (IsFailure d k) d E P G
