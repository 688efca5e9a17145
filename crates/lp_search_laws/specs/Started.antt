-- Typed queries, programs of flattened clauses, and what the search of a query starts with.
use Rattle.std.specs.Prelude.{◌≡◌, ℕ, suc, ◌-◌, List, [], map, length, reverse}
use Rattle.lp_unify_laws.specs.TypesBelow.{IsTypeBelow, AreTypesBelow}
use Rattle.lp_calculus.specs.Types.{Ty, instance}
use Rattle.lp_calculus.specs.Term.{Atom, atom, constant, integer, text, eigen, logic, param}
use Rattle.lp_calculus.specs.Fill.{Within}
use Rattle.lp_calculus.specs.Closed.{AreClosed, AllAtoms}
use Rattle.lp_proof_laws.specs.Unnegated.{IsUnnegatedAtom}
use Rattle.lp_calculus.specs.Typing.{Typed, o_type, type_at}
use Rattle.lp_lemmas.specs.Each.{EachOf}
use Rattle.lp_model.specs.Pair.{Closing, closed}
use Rattle.lp_model.specs.Flat.{Goals, goal_list, instantiate_goals, formula_of_goal}
use Rattle.lp_model.specs.Flatten.{ClauseFormula}
use Rattle.lp_model.specs.Proofs.{Declared, under, Leaves, ProvableBy, no_leaf}
use Rattle.lp_model.specs.Answers.{Query, Variable, Instance, Closes, ConvertEach, AreWitnesses, filled}
use Rattle.lp_model.specs.Search.{vars_from, types_from}
use Rattle.lp_search_laws.specs.Holds.{Holds}

-- an atom of a query or a sentence: no logic variable and no eigenconstant, and only the type variables of its own
abbrev pub IsQueryAtom : (k : ℕ) → Atom → Type 0
IsQueryAtom k (constant c ts) = AreTypesBelow k ts
IsQueryAtom k (integer z) = Unit {0}
IsQueryAtom k (text s) = Unit {0}
IsQueryAtom k (eigen n) = ⊥
IsQueryAtom k (logic x l) = ⊥
IsQueryAtom k (param n T) = IsTypeBelow k T

-- a query is typed over its type variables: its variables are the loose indices, the first one the outermost
pub record IsTypedQuery (d : Declared) (q : Query) : Type 0 where
  pub vars : AreTypesBelow q.type_vars q.vars
  pub typed : Typed (under d []) (reverse q.vars) q.formula o_type
  pub within : Within (IsQueryAtom q.type_vars) (length q.vars) q.formula

-- a sentence is typed over its type variables
pub record IsTypedSentence (d : Declared) (D : ClauseFormula) : Type 0 where
  pub typed : Typed (under d []) [] D.formula o_type
  pub within : Within (IsQueryAtom D.type_vars) 0 D.formula

-- the same without negation
pub record IsPlainQuery (d : Declared) (q : Query) : Type 0 where
  pub typed : IsTypedQuery d q
  pub unnegated : AllAtoms IsUnnegatedAtom q.formula

pub record IsPlainSentence (d : Declared) (D : ClauseFormula) : Type 0 where
  pub typed : IsTypedSentence d D
  pub unnegated : AllAtoms IsUnnegatedAtom D.formula

-- a variable of level 0
abbrev pub outermost : Ty → Variable
outermost T = record { type = T; scope = [] }

-- a closing of the variables that a query starts with gives the instance, and makes each of the goals provable
pub record StartHolds (L : Leaves) (d : Declared) (P : List ClauseFormula) (q : Query) (gs : Goals) (i : Instance) : Type 0 where
  pub closing : Closing
  pub closes : Closes d (map outermost q.vars) closing
  pub types : map (instance closing.types) (types_from q.type_vars 0) ≡ i.types
  pub values : ConvertEach (map (closed closing) (vars_from (length q.vars) 0)) i.values
  pub holds : EachOf (λ g. Holds L d [] P closing (formula_of_goal g)) (goal_list (instantiate_goals (λ k. atom (logic (length q.vars - suc k) 0)) gs))

-- closed types, and closed positive terms of the variables' types, with which the query has a proof with such leaves
pub record IsProvableBy (L : Leaves) (d : Declared) (P : List ClauseFormula) (q : Query) (i : Instance) : Type 0 where
  pub types : length i.types ≡ q.type_vars
  pub types_closed : AreClosed i.types
  pub values : AreWitnesses d i.values (map (instance (type_at i.types)) q.vars)
  pub proved : ProvableBy L d [] P (filled q i)

-- without failing searches
abbrev pub IsPlainlyProvable : Declared → (P : List ClauseFormula) → Query → Instance → Type 0
IsPlainlyProvable d P q i = IsProvableBy no_leaf d P q i
