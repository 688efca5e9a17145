-- Inputs of unification that are typed, their solutions, those of what a run leaves, and what a run owes between the two.
use Rattle.std.specs.Prelude.{◌≡◌, ℕ, List, [], ◌∷◌, ◌++◌, map, length, Some, slice_get}
use Rattle.lp_calculus.specs.Types.{Ty, instance}
use Rattle.lp_calculus.specs.Term.{Term, atom, logic}
use Rattle.lp_calculus.specs.Convert.{Converts}
use Rattle.lp_calculus.specs.Fill.{Within, Binding, put_all}
use Rattle.lp_calculus.specs.Instance.{instance_term}
use Rattle.lp_calculus.specs.Typing.{Typed}
use Rattle.lp_model.specs.Types.{TypePair, TypeBinding}
use Rattle.lp_model.specs.Pair.{Pair, Closing, closed, Solves, SolvesAll}
use Rattle.lp_model.specs.Rule.{Ruled, Verdict, fails, gives, binds, delays, rule}
use Rattle.lp_model.specs.Unify.{State}
use Rattle.lp_model.specs.Proofs.{Declared, IsWitness}
use Rattle.lp_model.specs.Answers.{Variable, over, IsScopedAtom, PairTyping, AreTypedPairs, Closes}
use Rattle.lp_unify_laws.specs.Levels.{IsClosing}
use Rattle.lp_unify_laws.specs.TypeSolutions.{Unifies, Satisfies}

-- types for type variables, in pairs, in variables, in typings and in bindings
abbrev pub instance_pair : (ℕ → Ty) → Pair → Pair
instance_pair θ p = record { left = instance_term θ p.left; right = instance_term θ p.right; level = p.level }

abbrev pub at_types : (ℕ → Ty) → List Pair → List Pair
at_types θ ps = map (instance_pair θ) ps

abbrev pub instance_variable : (ℕ → Ty) → Variable → Variable
instance_variable θ v = record { type = instance θ v.type; scope = map (instance θ) v.scope }

abbrev pub instance_typing : (ℕ → Ty) → PairTyping → PairTyping
instance_typing θ q = record { eigens = map (instance θ) q.eigens; type = instance θ q.type }

abbrev pub instance_binding : (ℕ → Ty) → Binding → Binding
instance_binding θ b = record { id = b.id; level = b.level; value = instance_term θ b.value }

-- more variables: the older ones keep their numbers
pub record IsMore (V W : List Variable) : Type 0 where
  pub more : List Variable
  pub is : W ≡ V ++ more

-- each variable is given a positive closed term of its type, in its scope
abbrev pub IsTypedClosing : Declared → List Variable → (ℕ → ℕ → Term) → Type 0
IsTypedClosing d V σ = (x : ℕ) (v : Variable) → slice_get V x ≡ Some v → IsWitness d v.scope (σ x (length v.scope)) v.type

-- the value of a binding has the type of its variable, in its scope
pub record IsTypedBinding (d : Declared) (V : List Variable) (b : Binding) : Type 0 where
  pub variable : Variable
  pub is : slice_get V b.id ≡ Some variable
  pub level : b.level ≡ length variable.scope
  pub typed : Typed (over d variable.scope V) [] b.value variable.type
  pub scoped : Within (IsScopedAtom V variable.scope) 0 b.value

abbrev pub AreTypedBindings : Declared → List Variable → List Binding → Type 0
AreTypedBindings d V [] = Unit {0}
AreTypedBindings d V (b ∷ bs) = IsTypedBinding d V b × AreTypedBindings d V bs

abbrev pub HaveTypings : Declared → List Variable → List Pair → Type 0
HaveTypings d V ps = (qs : List PairTyping) × AreTypedPairs d V qs ps

-- pairs that have a typing once the type equations are solved: under types that solve them
abbrev pub IsTypedInput : (θ : ℕ → Ty) → Declared → List Variable → List TypePair → (pairs delayed : List Pair) → Type 0
IsTypedInput θ d V eqs ps ds = Unifies θ eqs → HaveTypings d V (at_types θ ps) × HaveTypings d V (at_types θ ds)

-- a closing that solves type equations and pairs: each value is closed at the variable's level and has its type
pub record IsSolution (d : Declared) (V : List Variable) (c : Closing) (eqs : List TypePair) (ps ds : List Pair) : Type 0 where
  pub levels : IsClosing c.terms
  pub typed : IsTypedClosing d V c.terms
  pub types : Unifies c.types eqs
  pub pairs : SolvesAll c ps
  pub delayed : SolvesAll c ds

-- a closing that solves what a run left
pub record SolvesResidual (d : Declared) (V : List Variable) (c : Closing) (s : State) : Type 0 where
  pub levels : IsClosing c.terms
  pub typed : IsTypedClosing d V c.terms
  pub types : Satisfies c.types s.types
  pub delayed : SolvesAll c s.delayed

-- what a closing gives to variables through bindings
abbrev pub through_bindings : List Binding → Closing → Closing
through_bindings bs c = record { types = c.types; terms = λ x l. closed c (put_all bs (atom (logic x l))) }

-- variables are added, and with them bindings and residual pairs have typings
pub record KeepsTypings (θ : ℕ → Ty) (d : Declared) (V : List Variable) (s : State) : Type 0 where
  pub after : List Variable
  pub more : IsMore V after
  pub count : length after ≡ s.next
  pub bindings : AreTypedBindings d after (map (instance_binding θ) s.bindings)
  pub residual : HaveTypings d after (at_types θ s.delayed)

-- a solution of the input comes from one of the residual pairs: with the same types, and up to conversion the same values
pub record KeepsSolution (d : Declared) (V : List Variable) (c : Closing) (s : State) : Type 0 where
  pub typings : KeepsTypings c.types d V s
  pub closing : Closing
  pub types : closing.types ≡ c.types
  pub solves : SolvesResidual d typings.after closing s
  pub gives : (x : ℕ) (v : Variable) → slice_get V x ≡ Some v → Converts (c.terms x (length v.scope)) ((through_bindings s.bindings closing).terms x (length v.scope))

-- what stands in the place of a pair: types that solve the pair satisfy the type bindings, and the solutions are the same
pub record GivesSame (c : Closing) (p : Pair) (ts : List TypeBinding) (ps : List Pair) : Type 0 where
  pub keeps : Solves c p → Satisfies c.types ts × SolvesAll c ps
  pub solves : Satisfies c.types ts → SolvesAll c ps → Solves c p

-- a closing that gives, through bindings, what the older one gave to the variables that were there
pub record ComesThrough (d : Declared) (V : List Variable) (c : Closing) (bs : List Binding) (next : ℕ) : Type 0 where
  pub after : List Variable
  pub more : IsMore V after
  pub count : length after ≡ next
  pub bindings : AreTypedBindings d after (map (instance_binding c.types) bs)
  pub closing : Closing
  pub types : closing.types ≡ c.types
  pub levels : IsClosing closing.terms
  pub typed : IsTypedClosing d after closing.terms
  pub gives : (x : ℕ) (v : Variable) → slice_get V x ≡ Some v → Converts (c.terms x (length v.scope)) ((through_bindings bs closing).terms x (length v.scope))

-- what the verdict of a rule on a pair says of a closing
abbrev pub IsRightFor : Declared → List Variable → Closing → Pair → Verdict → Type 0
IsRightFor d V c p fails = IsTypedClosing d V c.terms → Solves c p → ⊥
IsRightFor d V c p (gives ts ps) = GivesSame c p ts ps
IsRightFor d V c p (binds bs next) = (IsTypedClosing d V c.terms → Solves c p → ComesThrough d V c bs next) × Solves (through_bindings bs c) p
IsRightFor d V c p delays = Unit {0}

-- the same where no variable has to be typed: only failures and pairs
abbrev pub IsPlainlyRightFor : Closing → Pair → Verdict → Type 0
IsPlainlyRightFor c p fails = Solves c p → ⊥
IsPlainlyRightFor c p (gives ts ps) = GivesSame c p ts ps
IsPlainlyRightFor c p (binds bs next) = ⊥
IsPlainlyRightFor c p delays = ⊥

-- a residual pair: the first rule that applies to it delays it
pub record IsStuck (n : ℕ) (p : Pair) : Type 0 where
  pub next : ℕ
  pub ruled : Ruled
  pub is : rule n next p ≡ Some ruled
  pub delays : ruled.verdict ≡ delays

abbrev pub AreStuck : ℕ → List Pair → Type 0
AreStuck n [] = Unit {0}
AreStuck n (p ∷ ps) = IsStuck n p × AreStuck n ps

-- a closing of lp_model that solves type equations and pairs: what it gives to a variable of V is closed, positive, and of the
-- variable's type, in its scope
pub record IsClosedSolution (d : Declared) (V : List Variable) (c : Closing) (eqs : List TypePair) (ps ds : List Pair) : Type 0 where
  pub closes : Closes d V c
  pub types : Unifies c.types eqs
  pub pairs : SolvesAll c ps
  pub delayed : SolvesAll c ds

-- with the types of a closing in the variables
abbrev pub closed_variables : Closing → List Variable → List Variable
closed_variables c V = map (instance_variable c.types) V

-- a closing of the variables that are there then, with the same types, that solves the residual pairs and gives the same values
pub record KeptClosing (d : Declared) (V W : List Variable) (c : Closing) (bs : List Binding) (residual : List Pair) : Type 0 where
  pub closing : Closing
  pub types : closing.types ≡ c.types
  pub closes : Closes d W closing
  pub solves : SolvesAll closing residual
  pub gives : (x : ℕ) (v : Variable) → slice_get V x ≡ Some v → Converts (c.terms x (length v.scope)) ((through_bindings bs closing).terms x (length v.scope))

-- with the types θ put in, bindings and residual pairs are typed over one list of variables, and its closings that solve the residual
-- pairs are, through the bindings, the closings that solve the pairs
pub record HasSameClosings (θ : ℕ → Ty) (d : Declared) (V : List Variable) (ps ds : List Pair) (s : State) : Type 0 where
  pub typings : KeepsTypings θ d V s
  pub keeps : (c : Closing) → Closes d V c → SolvesAll c (at_types θ ps) → SolvesAll c (at_types θ ds) → KeptClosing d V typings.after c (map (instance_binding θ) s.bindings) (at_types θ s.delayed)
  pub adds_none : (c : Closing) → Closes d typings.after c → SolvesAll c (at_types θ s.delayed) → SolvesAll (through_bindings (map (instance_binding θ) s.bindings) c) (at_types θ ps) × SolvesAll (through_bindings (map (instance_binding θ) s.bindings) c) (at_types θ ds)
