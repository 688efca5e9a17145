-- Flattened goals and clauses of pattern text, as they are written and while a search goes on.
use Rattle.std.specs.Prelude.{◌≢◌, ℕ, List, [], ◌∷◌, ◌++◌, length}
use Rattle.lp_calculus.specs.Term.{Term, Atom, constant, integer, text, eigen, logic, param}
use Rattle.lp_calculus.specs.Convert.{ReducesTo}
use Rattle.lp_calculus.specs.Fill.{Binding, Within}
use Rattle.lp_standard.specs.Numbers as number
use Rattle.lp_model.specs.Flat.{Goal, Atomic, Cut, Either, Exists, Forall, Assume, Not, Goals, no_goals, goals, Clause, clause, Clauses, no_clauses, clauses}
use Rattle.lp_model.specs.Index.{instantiate}
use Rattle.lp_model.specs.Pair.{Closing, closed}
use Rattle.lp_pattern_laws.specs.Patterns.{IsPattern}
use Rattle.lp_pattern_laws.specs.Binders.{Binder, universal, existential, IsPatternIn, IsAtLevel, IsOpening, HasPatternValues}
use Rattle.lp_pattern_laws.specs.Parts.{existentials}

-- a value for a variable: it reduces to a pattern term, and is closed, without variables and eigenconstants above the variable's level
pub record IsPatternValue (b : Binding) : Type 0 where
  pub pattern : IsPattern b.value
  pub level : Within (IsAtLevel b.level) 0 b.value

-- a term at a level, below such binders, that reduces to a pattern term as soon as it is opened, whatever its variables have got
pub record StaysPattern (l : ℕ) (Γ : List Binder) (t : Term) : Type 0 where
  pub within : Within (IsAtLevel l) (length Γ) t
  pub opens : (c : Closing) → HasPatternValues c → (σ : ℕ → Term) → IsOpening l Γ σ → IsPattern (instantiate σ (closed c t))

-- each atom of goals, and each head of clauses, is S of the binders around it; `sigma` and clauses bind existential variables, `pi` binds universal ones
abbrev mutual
  pub IsGoalOf : (S : List Binder → Term → Type 0) → (binders : List Binder) → Goal → Type 0
  IsGoalOf S Γ (Atomic t) = S Γ t
  IsGoalOf S Γ Cut = Unit {0}
  IsGoalOf S Γ (Either gs hs) = AreGoalsOf S Γ gs × AreGoalsOf S Γ hs
  IsGoalOf S Γ (Exists T gs) = AreGoalsOf S (existential ∷ Γ) gs
  IsGoalOf S Γ (Forall T gs) = AreGoalsOf S (universal ∷ Γ) gs
  IsGoalOf S Γ (Assume w cs gs) = AreClausesOf S Γ cs × AreGoalsOf S Γ gs
  IsGoalOf S Γ (Not w gs) = AreGoalsOf S Γ gs

  pub AreGoalsOf : (S : List Binder → Term → Type 0) → (binders : List Binder) → Goals → Type 0
  AreGoalsOf S Γ no_goals = Unit {0}
  AreGoalsOf S Γ (goals g gs) = IsGoalOf S Γ g × AreGoalsOf S Γ gs

  pub IsClauseOf : (S : List Binder → Term → Type 0) → (binders : List Binder) → Clause → Type 0
  IsClauseOf S Γ (clause n vs h b) = S (existentials vs ++ Γ) h × AreGoalsOf S (existentials vs ++ Γ) b

  pub AreClausesOf : (S : List Binder → Term → Type 0) → (binders : List Binder) → Clauses → Type 0
  AreClausesOf S Γ no_clauses = Unit {0}
  AreClausesOf S Γ (clauses c cs) = IsClauseOf S Γ c × AreClausesOf S Γ cs

-- goals whose atoms, and clauses whose heads too, are such terms
abbrev pub IsPatternGoal : (level : ℕ) → (binders : List Binder) → Goal → Type 0
IsPatternGoal l Γ g = IsGoalOf (StaysPattern l) Γ g

abbrev pub ArePatternGoals : (level : ℕ) → (binders : List Binder) → Goals → Type 0
ArePatternGoals l Γ gs = AreGoalsOf (StaysPattern l) Γ gs

abbrev pub IsPatternClause : (level : ℕ) → (binders : List Binder) → Clause → Type 0
IsPatternClause l Γ c = IsClauseOf (StaysPattern l) Γ c

abbrev pub ArePatternClauses : (level : ℕ) → (binders : List Binder) → Clauses → Type 0
ArePatternClauses l Γ cs = AreClausesOf (StaysPattern l) Γ cs

-- an atom of a text: no logic variable and no eigenconstant, and not `sigma`, which is flattened where it is a goal
abbrev pub IsTextAtom : Atom → Type 0
IsTextAtom (constant c ts) = c ≢ number.Exists
IsTextAtom (integer z) = Unit {0}
IsTextAtom (text s) = Unit {0}
IsTextAtom (eigen k) = ⊥
IsTextAtom (logic x l) = ⊥
IsTextAtom (param k T) = Unit {0}

-- pattern text as it is written: it reduces to pattern text
pub record IsWrittenText (Γ : List Binder) (t : Term) : Type 0 where
  pub within : Within IsTextAtom (length Γ) t
  pub form : Term
  pub reduces : ReducesTo t form
  pub pattern : IsPatternIn Γ form

-- flattened clauses and goals of pattern text as they are written
abbrev pub IsTextClause : Clause → Type 0
IsTextClause c = IsClauseOf IsWrittenText [] c

abbrev pub AreTextGoals : (binders : List Binder) → Goals → Type 0
AreTextGoals Γ gs = AreGoalsOf IsWrittenText Γ gs
