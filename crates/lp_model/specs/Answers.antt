-- Typings of answers, their closings and closed instances, provable instances of a query, and what makes the answers of a search right.
use Rattle.std.specs.Prelude.{◌≡◌, ℕ, suc, ◌-◌, ◌≤◌, nat_eq, if◌then◌else◌, List, [], ◌∷◌, ◌++◌, map, length, Option, Some, None, slice_get}
use Rattle.lp_calculus.specs.Types.{Ty, instance}
use Rattle.lp_calculus.specs.Term.{Term, Atom, constant, integer, text, eigen, logic, param}
use Rattle.lp_calculus.specs.Convert.{Converts}
use Rattle.lp_calculus.specs.Fill.{Within}
use Rattle.lp_calculus.specs.Typing.{Context, Typed, type_at}
use Rattle.lp_calculus.specs.Instance.{instance_term}
use Rattle.lp_calculus.specs.Closed.{AreClosed, IsClosedType}
use Rattle.lp_standard.specs.Positive.{IsPositive}
use Rattle.lp_model.specs.declared.ending.Ending.TheVariants.{NoMore}
use Rattle.lp_model.specs.Skeleton.{Told}
use Rattle.lp_lemmas.specs.Each.{AnyOf, EachOf}
use Rattle.lp_model.specs.Index.{instantiate, at}
use Rattle.lp_model.specs.Pair.{Pair, Closing, closed, SolvesAll}
use Rattle.lp_model.specs.Flatten.{ClauseFormula}
use Rattle.lp_model.specs.Proofs.{Declared, IsWitness, Provable}
pub use Rattle.lp_model.specs.Variables.{Variable, type_of, over, IsPrefix, IsScopedAtom}
use Rattle.lp_model.specs.Branch.{Answer}

-- a query: the types of its variables, over its type variables, and its formula, in which the first variable is the outermost index
pub record Query : Type 0 where
  pub type_vars : ℕ
  pub vars : List Ty
  pub formula : Term

-- of a pair the types of its own eigenconstants, as many as its level, and the type of its sides
pub record PairTyping : Type 0 where
  pub eigens : List Ty
  pub type : Ty

pub record AnswerTyping : Type 0 where
  pub variables : List Variable
  pub pairs : List PairTyping

-- both sides of a pair have its type
pub record IsTypedPair (d : Declared) (V : List Variable) (t : PairTyping) (p : Pair) : Type 0 where
  pub level : length t.eigens ≡ p.level
  pub left : Typed (over d t.eigens V) [] p.left t.type
  pub right : Typed (over d t.eigens V) [] p.right t.type
  pub left_scoped : Within (IsScopedAtom V t.eigens) 0 p.left
  pub right_scoped : Within (IsScopedAtom V t.eigens) 0 p.right

abbrev pub AreTypedPairs : Declared → List Variable → List PairTyping → List Pair → Type 0
AreTypedPairs d V [] [] = Unit {0}
AreTypedPairs d V (t ∷ ts) (p ∷ ps) = IsTypedPair d V t p × AreTypedPairs d V ts ps
AreTypedPairs d V [] (p ∷ ps) = ⊥
AreTypedPairs d V (t ∷ ts) [] = ⊥

-- only variables of level 0, and no eigenconstant
abbrev pub IsOutermostAtom : Atom → Type 0
IsOutermostAtom (logic x l) = l ≡ 0
IsOutermostAtom (eigen k) = ⊥
IsOutermostAtom (constant c ts) = Unit {0}
IsOutermostAtom (integer z) = Unit {0}
IsOutermostAtom (text s) = Unit {0}
IsOutermostAtom (param k t) = Unit {0}

pub record IsTypedValue (d : Declared) (V : List Variable) (t : Term) (T : Ty) : Type 0 where
  pub typed : Typed (over d [] V) [] t T
  pub outermost : Within IsOutermostAtom 0 t
  pub positive : IsPositive t

abbrev pub AreTypedValues : Declared → List Variable → List Term → List Ty → Type 0
AreTypedValues d V [] [] = Unit {0}
AreTypedValues d V (t ∷ ts) (T ∷ Ts) = IsTypedValue d V t T × AreTypedValues d V ts Ts
AreTypedValues d V [] (T ∷ Ts) = ⊥
AreTypedValues d V (t ∷ ts) [] = ⊥

-- an answer is well formed under a typing
pub record IsWellFormed (d : Declared) (q : Query) (y : AnswerTyping) (a : Answer) : Type 0 where
  pub variables : length y.variables ≡ a.next
  pub types : length a.types ≡ q.type_vars
  pub values : AreTypedValues d y.variables a.values (map (instance (type_at a.types)) q.vars)
  pub pairs : AreTypedPairs d y.variables y.pairs a.pairs

-- a closing of the variables: closed types, and for each variable of level l a positive term of its type closed at l in its scope
pub record Closes (d : Declared) (V : List Variable) (c : Closing) : Type 0 where
  pub types : (i : ℕ) → IsClosedType (c.types i)
  pub terms : (x : ℕ) (v : Variable) → slice_get V x ≡ Some v → IsWitness d (map (instance c.types) v.scope) (c.terms x (length v.scope)) (instance c.types v.type)

-- types for the query's type variables and values for its variables
pub record Instance : Type 0 where
  pub types : List Ty
  pub values : List Term

abbrev pub ConvertEach : List Term → List Term → Type 0
ConvertEach [] [] = Unit {0}
ConvertEach (t ∷ ts) (u ∷ us) = Converts t u × ConvertEach ts us
ConvertEach [] (u ∷ us) = ⊥
ConvertEach (t ∷ ts) [] = ⊥

-- a closed instance of the answer: what a closing that solves the pairs makes of it
pub record IsClosedInstance (d : Declared) (y : AnswerTyping) (a : Answer) (i : Instance) : Type 0 where
  pub closing : Closing
  pub closes : Closes d y.variables closing
  pub solves : SolvesAll closing a.pairs
  pub types : map (instance closing.types) a.types ≡ i.types
  pub values : map (closed closing) a.values ≡ i.values

-- the same up to conversion of the values
pub record IsInstance (d : Declared) (y : AnswerTyping) (a : Answer) (i : Instance) : Type 0 where
  pub closing : Closing
  pub closes : Closes d y.variables closing
  pub solves : SolvesAll closing a.pairs
  pub types : map (instance closing.types) a.types ≡ i.types
  pub values : ConvertEach (map (closed closing) a.values) i.values

abbrev pub AreWitnesses : Declared → List Term → List Ty → Type 0
AreWitnesses d [] [] = Unit {0}
AreWitnesses d (t ∷ ts) (T ∷ Ts) = IsWitness d [] t T × AreWitnesses d ts Ts
AreWitnesses d [] (T ∷ Ts) = ⊥
AreWitnesses d (t ∷ ts) [] = ⊥

-- the query filled in: the first variable is the outermost index
abbrev pub filled : Query → Instance → Term
filled q i = instantiate (λ k. at i.values (length i.values - suc k)) (instance_term (type_at i.types) q.formula)

-- closed types, and closed positive terms of the variables' types, with which the query has a proof from the program
pub record IsProvable (d : Declared) (P : List ClauseFormula) (q : Query) (i : Instance) : Type 0 where
  pub types : length i.types ≡ q.type_vars
  pub types_closed : AreClosed i.types
  pub values : AreWitnesses d i.values (map (instance (type_at i.types)) q.vars)
  pub proved : Provable d (length P) [] P (filled q i)

-- an answer of a search with its typing
pub record TypedAnswer : Type 0 where
  pub answer : Answer
  pub typing : AnswerTyping

-- what was told of a query is right: its answers have typings under which each is well formed and each of its closed instances is provable, and after
-- `NoMore` each provable instance is, up to conversion, one of an answer
pub record IsRight (d : Declared) (P : List ClauseFormula) (q : Query) (t : Told Answer) : Type 0 where
  pub typed : List TypedAnswer
  pub is : map (λ a. a.answer) typed ≡ t.answers
  pub well_formed : EachOf (λ a. IsWellFormed d q a.typing a.answer) typed
  pub sound : EachOf (λ a. (i : Instance) → IsClosedInstance d a.typing a.answer i → IsProvable d P q i) typed
  pub exhausts : t.ending ≡ Some NoMore → (i : Instance) → IsProvable d P q i → AnyOf (λ a. IsInstance d a.typing a.answer i) typed
