-- Branches of the plain search with their typings, and the instances of the query that a task can still give. A typing is carried beside the
-- task: what a search leaves of a typed task are typed tasks.
use Rattle.std.specs.Prelude.{◌≡◌, ◌≢◌, ◌≤◌, ◌⊎◌, ℕ, Bool, true, false, List, [], ◌∷◌, ◌++◌, map, length, slice_index_or, Some}
use Rattle.lp_unify_laws.specs.TypesBelow.{IsTypeBelow, AreTypesBelow}
use Rattle.lp_calculus.specs.Types.{Ty, instance}
use Rattle.lp_calculus.specs.Term.{Term, Atom, index, atom, abs, app, constant, integer, text, eigen, logic, param}
use Rattle.lp_calculus.specs.Typing.{o_type, type_at}
use Rattle.lp_calculus.specs.Closed.{AreClosed, AllAtoms}
use Rattle.lp_standard.specs.Positive.{IsPositiveAtom}
use Rattle.lp_model.specs.declared.ending.Ending.{Ending}
use Rattle.lp_model.specs.declared.ending.Ending.TheVariants.{NoMore}
use Rattle.lp_lemmas.specs.Each.{AnyOf, EachOf}
use Rattle.lp_calculus.specs.Spine.{head_of}
use Rattle.lp_model.specs.Look.{head_normal}
use Rattle.lp_standard.specs.Connectives.{connective_of, truth}
use Rattle.lp_standard.specs.Connectives as connective
use Rattle.lp_model.specs.Pair.{Pair, Closing, closed}
use Rattle.lp_model.specs.Flat.{Goal, Atomic, Cut, Either, Exists, Forall, Assume, Not, Goals, no_goals, goals, Clause, clause, Clauses, no_clauses, clauses, formula_of_goal, formula_of_goals, formula_of_clause, goal_list}
use Rattle.lp_model.specs.Proofs.{Declared, IsAtomHead, Leaves, Failure}
use Rattle.lp_model.specs.Answers.{Query, Variable, AnswerTyping, Instance, AreWitnesses, IsInstance, IsWellFormed}
use Rattle.lp_model.specs.Branch.{Entry, Branch, Answer, Task, Go, Try, Stop, Lack}
use Rattle.lp_model.specs.Search.{with_goals, has_head}
use Rattle.lp_unify_laws.specs.Solutions.{AreStuck}
use Rattle.lp_search_laws.specs.Holds.{Holds, IsTyped}
use Rattle.lp_search_laws.specs.Clauses.{Serves, clauses_at, own_types}
use Rattle.lp_search_laws.specs.Written.{IsWrittenClause, IsWrittenEntry}

-- goals and clauses: atoms are positive, type variables are below k

-- none of `=>`, `:-` and `!`
abbrev pub IsPlainAtom : (k : ℕ) → Atom → Type 0
IsPlainAtom k (constant c ts) = IsPositiveAtom (constant c ts) × AreTypesBelow k ts
IsPlainAtom k (integer z) = Unit {0}
IsPlainAtom k (text s) = Unit {0}
IsPlainAtom k (eigen n) = Unit {0}
IsPlainAtom k (logic x l) = Unit {0}
IsPlainAtom k (param n T) = IsTypeBelow k T

abbrev pub IsPlainTerm : (k : ℕ) → Term → Type 0
IsPlainTerm k t = AllAtoms (IsPlainAtom k) t

-- the head of a clause is a declared constant or an eigenconstant, or an index that a `pi` in goal position binds; `binders` says which
abbrev pub IsClauseHead : (binders : List Bool) → Term → Type 0
IsClauseHead binders (index i) = slice_index_or binders i false ≡ true
IsClauseHead binders (atom (constant c ts)) = 32 ≤ c
IsClauseHead binders (atom (eigen k)) = Unit {0}
IsClauseHead binders (atom (integer z)) = ⊥
IsClauseHead binders (atom (text s)) = ⊥
IsClauseHead binders (atom (logic x l)) = ⊥
IsClauseHead binders (atom (param k T)) = ⊥
IsClauseHead binders (abs b) = ⊥
IsClauseHead binders (app t u) = ⊥

abbrev mutual
  pub IsGoal : (k : ℕ) → (binders : List Bool) → Goal → Type 0
  IsGoal k B (Atomic t) = IsPlainTerm k t
  IsGoal k B Cut = Unit {0}
  IsGoal k B (Either gs hs) = AreGoals k B gs × AreGoals k B hs
  IsGoal k B (Exists T gs) = IsTypeBelow k T × AreGoals k (false ∷ B) gs
  IsGoal k B (Forall T gs) = IsTypeBelow k T × AreGoals k (true ∷ B) gs
  IsGoal k B (Assume ws cs gs) = AreClauses k B cs × AreGoals k B gs
  IsGoal k B (Not ws gs) = AreGoals k B gs

  pub AreGoals : (k : ℕ) → (binders : List Bool) → Goals → Type 0
  AreGoals k B no_goals = Unit {0}
  AreGoals k B (goals g gs) = IsGoal k B g × AreGoals k B gs

  pub IsClause : (k : ℕ) → (binders : List Bool) → Clause → Type 0
  IsClause k B (clause n vs h b) =
      AreTypesBelow k vs × IsClauseHead (map (λ v. false) vs ++ B) (head_of h) × IsPlainTerm k h × AreGoals k (map (λ v. false) vs ++ B) b

  -- assumed clauses have no type variables of their own
  pub AreClauses : (k : ℕ) → (binders : List Bool) → Clauses → Type 0
  AreClauses k B no_clauses = Unit {0}
  AreClauses k B (clauses c cs) = (own_types c ≡ 0) × IsClause k B c × AreClauses k B cs

abbrev pub IsAssumable : (k : ℕ) → Clause → Type 0
IsAssumable k c = (own_types c ≡ 0) × IsClause k [] c

-- a clause of a program is typed over its own type variables
pub record IsProgramTyped (d : Declared) (c : Clause) : Type 0 where
  pub typed : IsTyped d [] [] (formula_of_clause c) o_type
  pub form : IsClause (own_types c) [] c
  pub written : IsWrittenClause c

-- entries, each with the types of the eigenconstants up to its level

pub record IsTypedEntry (d : Declared) (V : List Variable) (E : List Ty) (e : Entry) : Type 0 where
  pub level : length E ≡ e.level
  pub goal : IsTyped d E V (formula_of_goal e.goal) o_type
  pub assumed : EachOf (λ c. IsTyped d E V (formula_of_clause c) o_type) e.assumed

abbrev pub AreTypedEntries : Declared → List Variable → List (List Ty) → List Entry → Type 0
AreTypedEntries d V [] [] = Unit {0}
AreTypedEntries d V (E ∷ Es) (e ∷ es) = IsTypedEntry d V E e × AreTypedEntries d V Es es
AreTypedEntries d V [] (e ∷ es) = ⊥
AreTypedEntries d V (E ∷ Es) [] = ⊥

pub record IsPlainEntry (k : ℕ) (E : List Ty) (e : Entry) : Type 0 where
  pub eigens : AreTypesBelow k E
  pub goal : IsGoal k [] e.goal
  pub assumed : EachOf (IsAssumable k) e.assumed

abbrev pub ArePlainEntries : (k : ℕ) → List (List Ty) → List Entry → Type 0
ArePlainEntries k [] [] = Unit {0}
ArePlainEntries k (E ∷ Es) (e ∷ es) = IsPlainEntry k E e × ArePlainEntries k Es es
ArePlainEntries k [] (e ∷ es) = ⊥
ArePlainEntries k (E ∷ Es) [] = ⊥

-- the goal of the entry is provable from the program and what it assumes, as the closing makes them
abbrev pub EntryHolds : Leaves → Declared → (P : List Clause) → Closing → (E : List Ty) → Entry → Type 0
EntryHolds L d P c E e = Holds L d (map (instance c.types) E) (clauses_at P e.assumed c) c (formula_of_goal e.goal)

abbrev pub AreProved : Leaves → Declared → (P : List Clause) → Closing → List (List Ty) → List Entry → Type 0
AreProved L d P c [] [] = Unit {0}
AreProved L d P c (E ∷ Es) (e ∷ es) = EntryHolds L d P c E e × AreProved L d P c Es es
AreProved L d P c [] (e ∷ es) = ⊥
AreProved L d P c (E ∷ Es) [] = ⊥

-- branches

pub record BranchTyping : Type 0 where
  -- of the variables and the residual pairs
  pub answer : AnswerTyping
  -- of each entry the types of its eigenconstants
  pub eigens : List (List Ty)

-- what the branch is an answer of, once its goals are proved
abbrev pub answer_of : Branch → Answer
answer_of b = record { next = b.next; next_type = b.next_type; types = b.types; values = b.values; pairs = b.pairs }

pub record IsPlainVariable (k : ℕ) (v : Variable) : Type 0 where
  pub type : IsTypeBelow k v.type
  pub scope : AreTypesBelow k v.scope

pub record IsPlainPair (k : ℕ) (p : Pair) : Type 0 where
  pub left : IsPlainTerm k p.left
  pub right : IsPlainTerm k p.right

-- n bounds the steps of the look, as there
pub record IsTypedBranch (n : ℕ) (d : Declared) (q : Query) (y : BranchTyping) (b : Branch) : Type 0 where
  pub answer : IsWellFormed d q y.answer (answer_of b)
  pub entries : AreTypedEntries d y.answer.variables y.eigens b.goals
  pub variables : EachOf (IsPlainVariable b.next_type) y.answer.variables
  pub types : AreTypesBelow b.next_type b.types
  pub values : EachOf (IsPlainTerm b.next_type) b.values
  pub pairs : EachOf (IsPlainPair b.next_type) b.pairs
  pub goals : ArePlainEntries b.next_type y.eigens b.goals
  pub written : EachOf IsWrittenEntry b.goals
  pub stuck : AreStuck n b.pairs

-- closed types and closed positive terms of the types of the query's variables
pub record IsQueryInstance (d : Declared) (q : Query) (i : Instance) : Type 0 where
  pub types : length i.types ≡ q.type_vars
  pub types_closed : AreClosed i.types
  pub values : AreWitnesses d i.values (map (instance (type_at i.types)) q.vars)

-- an instance of the query that is one of the branch, by a closing that makes each goal provable
pub record SolvesBranch (L : Leaves) (d : Declared) (P : List Clause) (q : Query) (i : Instance) (y : BranchTyping) (b : Branch) : Type 0 where
  pub query : IsQueryInstance d q i
  pub answer : IsInstance d y.answer (answer_of b) i
  pub proved : AreProved L d P answer.closing y.eigens b.goals

-- a branch that is typed as another one, and has the same instances
pub record SolvesAs (L : Leaves) (n : ℕ) (d : Declared) (P : List Clause) (q : Query) (y : BranchTyping) (b c : Branch) : Type 0 where
  pub typed : IsTypedBranch n d q y c
  pub keeps : (i : Instance) → SolvesBranch L d P q i y b → SolvesBranch L d P q i y c
  pub gives : (i : Instance) → SolvesBranch L d P q i y c → SolvesBranch L d P q i y b

-- candidates

-- the entry's place with the atom in it
abbrev pub with_atom : Entry → Term → Entry
with_atom e t = record { goal = Atomic t; assumed = e.assumed; written = e.written; level = e.level; mark = e.mark }

abbrev pub IsAmong : Clause → List Clause → Type 0
IsAmong c cs = AnyOf (λ x. x ≡ c) cs

-- the first types of eigenconstants are those of the atom's entry
pub record IsTypedTry (n : ℕ) (d : Declared) (P : List Clause) (q : Query) (y : BranchTyping) (c : Clause) (t : Term) (e : Entry) (b : Branch) : Type 0 where
  pub branch : IsTypedBranch n d q y (with_goals b (with_atom e t ∷ b.goals))
  pub atomic : IsAtomHead (head_of t)
  pub named : has_head t c ≡ true
  pub stands : IsAmong c P ⊎ IsAmong c e.assumed

-- the atom is proved by the clause, and the goals behind it are proved
abbrev pub AreServed : Leaves → Declared → (P : List Clause) → Closing → List (List Ty) → Clause → Term → Entry → List Entry → Type 0
AreServed L d P z [] c t e es = ⊥
AreServed L d P z (E ∷ Es) c t e es = Serves L d (map (instance z.types) E) (clauses_at P e.assumed z) z c (closed z t) × AreProved L d P z Es es

pub record SolvesTry (L : Leaves) (d : Declared) (P : List Clause) (q : Query) (i : Instance) (y : BranchTyping) (c : Clause) (t : Term) (e : Entry) (b : Branch) : Type 0 where
  pub query : IsQueryInstance d q i
  pub answer : IsInstance d y.answer (answer_of b) i
  pub served : AreServed L d P answer.closing y.eigens c t e b.goals

-- tasks

pub data TypedTask : Type 0 where
  going : BranchTyping → Branch → TypedTask
  trying : BranchTyping → Clause → Term → Entry → Branch → (mark : ℕ) → TypedTask
  -- the search stops in the place of a task
  stopping : Ending → TypedTask → TypedTask
  -- the look lacks steps
  lacking : TypedTask → TypedTask

abbrev pub task_of : TypedTask → Task
task_of (going y b) = Go b
task_of (trying y c t e b mark) = Try c t e b mark
task_of (stopping e T) = Stop e
task_of (lacking T) = Lack

abbrev pub IsOk : (n : ℕ) → Declared → (P : List Clause) → Query → TypedTask → Type 0
IsOk n d P q (going y b) = IsTypedBranch n d q y b
IsOk n d P q (trying y c t e b mark) = IsTypedTry n d P q y c t e b
IsOk n d P q (stopping e T) = e ≢ NoMore
IsOk n d P q (lacking T) = Unit {0}

abbrev pub Sol : Leaves → Declared → (P : List Clause) → Query → Instance → TypedTask → Type 0
Sol L d P q i (going y b) = SolvesBranch L d P q i y b
Sol L d P q i (trying y c t e b mark) = SolvesTry L d P q i y c t e b
Sol L d P q i (stopping e T) = Sol L d P q i T
Sol L d P q i (lacking T) = Sol L d P q i T

-- a query without variables
abbrev pub no_query : Query
no_query = record { type_vars = 0; vars = []; formula = truth }

-- the variables of a branch and, for each of the goals, the types of its eigenconstants
abbrev pub denied_typing : List Variable → (E : List Ty) → Goals → BranchTyping
denied_typing V E gs = record { answer = record { variables = V; pairs = [] }; eigens = map (λ g. E) (goal_list gs) }

-- a leaf stands for the goals as the closing makes them
abbrev pub HasLeaf : Leaves → (P : List Clause) → Closing → (E : List Ty) → (assumed : List Clause) → Goals → Type 0
HasLeaf L P c E A gs = (f : Failure) × L (map (instance c.types) E) (clauses_at P A c) (closed c (formula_of_goals gs)) f

-- the goal is known at run time, and no connective is at the head of its head-normal form
pub record IsAtAtom (n : ℕ) (e : Entry) : Type 0 where
  pub term : Term
  pub goal : e.goal ≡ Atomic term
  pub form : Term
  pub comes : head_normal n term ≡ Some form
  pub plain : connective_of form ≡ connective.Atomic
