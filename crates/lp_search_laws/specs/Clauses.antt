-- Which clauses serve for an atom: with types for a clause's own type variables and terms for its variables its head is the atom, and its goals
-- are provable.
use Rattle.std.specs.Prelude.{ℕ, nat_lt, ◌<◌, if◌then◌else◌, ◌≡◌, List, [], ◌∷◌, ◌++◌, length, map}
use Rattle.lp_calculus.specs.Types.{Ty, instance}
use Rattle.lp_calculus.specs.Term.{Term}
use Rattle.lp_calculus.specs.Convert.{Converts}
use Rattle.lp_calculus.specs.Typing.{type_at}
use Rattle.lp_calculus.specs.Instance.{instance_term}
use Rattle.lp_calculus.specs.Closed.{AreClosed}
use Rattle.lp_model.specs.Index.{instantiate, at}
use Rattle.lp_calculus.specs.Spine.{head_of}
use Rattle.lp_model.specs.Pair.{Closing, closed}
use Rattle.lp_model.specs.Flat.{Clause, clause, Goals, formula_of_goals, formula_of_clause}
use Rattle.lp_model.specs.Flatten.{ClauseFormula}
pub use Rattle.lp_proof_laws.specs.Assumed.{assumed_as, assumed_at}
use Rattle.lp_model.specs.Proofs.{Declared, IsFormula, IsSentence, IsWitness, IsAtomHead, Leaves, ProvableBy, FocusableBy}

-- terms for variables of these types, in the same order, at the eigenconstants E
abbrev pub AreWitnessesAt : Declared → (E : List Ty) → List Term → List Ty → Type 0
AreWitnessesAt d E [] [] = Unit {0}
AreWitnessesAt d E (t ∷ ts) (T ∷ Ts) = IsWitness d E t T × AreWitnessesAt d E ts Ts
AreWitnessesAt d E [] (T ∷ Ts) = ⊥
AreWitnessesAt d E (t ∷ ts) [] = ⊥

-- the closing with types for the k type variables of a clause
abbrev pub with_own : (k : ℕ) → List Ty → Closing → Closing
with_own k ts c = record { types = λ i. if nat_lt i k then type_at ts i else c.types i; terms = c.terms }

-- terms for the variables of a clause, the innermost first, with which its head, under the closing, is the atom A and its goals are provable
pub record Applies (L : Leaves) (d : Declared) (E : List Ty) (P : List ClauseFormula) (c : Closing) (vs : List Ty) (h : Term) (body : Goals) (A : Term) : Type 0 where
  pub values : List Term
  pub witnesses : AreWitnessesAt d E values (map (instance c.types) vs)
  pub head : Converts (instantiate (at values) (closed c h)) A
  pub goals : ProvableBy L d E P (instantiate (at values) (closed c (formula_of_goals body)))

-- with closed types for its k type variables
pub record IsServing (L : Leaves) (d : Declared) (E : List Ty) (P : List ClauseFormula) (c : Closing) (k : ℕ) (vs : List Ty) (h : Term) (body : Goals) (A : Term) : Type 0 where
  pub types : List Ty
  pub long : length types ≡ k
  pub types_closed : AreClosed types
  pub applies : Applies L d E P (with_own k types c) vs h body A

abbrev pub Serves : Leaves → Declared → (E : List Ty) → (P : List ClauseFormula) → Closing → Clause → (A : Term) → Type 0
Serves L d E P c (clause k vs h body) A = IsServing L d E P c k vs h body A

-- with some closed types one can focus on the sentence, for the atom A
pub record IsInFocus (L : Leaves) (d : Declared) (E : List Ty) (P : List ClauseFormula) (D : ClauseFormula) (A : Term) : Type 0 where
  pub types : List Ty
  pub long : length types ≡ D.type_vars
  pub types_closed : AreClosed types
  pub focus : FocusableBy L d E P (instance_term (type_at types) D.formula) A

-- a flattened clause as a sentence
abbrev pub sentence_of : Clause → ClauseFormula
sentence_of (clause k vs h body) = record { type_vars = k; formula = formula_of_clause (clause k vs h body) }

-- what the goals of a place are proved from
abbrev pub clauses_at : (program assumed : List Clause) → Closing → List ClauseFormula
clauses_at P A c = map sentence_of P ++ assumed_at c A

-- a declared constant or an eigenconstant is at its head
abbrev pub HasAtomHead : Clause → Type 0
HasAtomHead (clause k vs h body) = IsAtomHead (head_of h)

abbrev pub own_types : Clause → ℕ
own_types (clause k vs h body) = k

-- types for the type variables from k on change nothing
abbrev pub MindsTypesBelow : ℕ → Term → Type 0
MindsTypesBelow k t = (θ κ : ℕ → Ty) → ((i : ℕ) → i < k → θ i ≡ κ i) → instance_term θ t ≡ instance_term κ t

-- a clause of a program: a sentence whose type variables are its own
pub record IsProgramClause (d : Declared) (x : Clause) : Type 0 where
  pub head : HasAtomHead x
  pub sentence : IsSentence d (sentence_of x)
  pub own : MindsTypesBelow (own_types x) (formula_of_clause x)

-- an assumed clause: it has no type variables of its own, and the closing makes it a formula
pub record IsAssumedClause (d : Declared) (E : List Ty) (c : Closing) (x : Clause) : Type 0 where
  pub head : HasAtomHead x
  pub none_own : own_types x ≡ 0
  pub formula : IsFormula d E (closed c (formula_of_clause x))
