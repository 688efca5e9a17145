-- The equations of a text while its parts are gone through: what stands in the bank, as trees.
use Rattle.std.specs.Prelude.{◌≡◌, ℕ, ◌+◌, List, [], ◌∷◌, ◌++◌, map, reverse, length, All}
use Rattle.lp_calculus.specs.Types.{Ty, instance}
use Rattle.lp_calculus.specs.Typing.{Scheme, o_type, type_at}
use Rattle.lp_type_laws.specs.Equations.{Equation, equation}
use Rattle.lp_term.specs.Nodes.{Nodes, type_tree, Extends}
use Rattle.lp_term.specs.declared.node.TypeId.{TypeId}
use Rattle.lp_type_unify.specs.declared.bindings.Pair.{Pair}
use Rattle.lp_type_unify.specs.Reading.{IsPair}
use Rattle.lp_sig.specs.declared.signature.Signature.{Signature}
use Rattle.lp_infer.specs.Generate.{fresh}
use Rattle.lp_infer.specs.Postfix.{mark}
use Rattle.lp_infer.specs.Running.{Sofar, sofar, run}
use Rattle.lp_term.specs.Within.{AreTypesOf}
use Rattle.lp_infer.specs.Copies.{trees_of, IsType}
use Rattle.lp_infer.specs.declared.lookup.Step.{Step}
use Rattle.lp_infer.specs.declared.generate.Typing.{Typing}

abbrev pub held : Nodes → Pair → Equation
held b p = equation (type_tree b p.left.0) (type_tree b p.right.0)

-- what was made so far, as trees
abbrev pub state : Typing → Sofar
state t = sofar (reverse (trees_of t.types t.context.items)) t.next (map (held t.types) t.pairs.items) (trees_of t.types t.wanted.items) (reverse (trees_of t.types t.stack.items))

-- all that is named stands in the bank
pub record IsSound (t : Typing) : Type 0 where
  pub context : AreTypesOf t.types t.context.items
  pub pairs : All (IsPair (length t.types.types)) t.pairs.items
  pub wanted : AreTypesOf t.types t.wanted.items
  pub stack : AreTypesOf t.types t.stack.items

-- what was made is changed so
pub record Acts (old new : Typing) (f : Sofar → Sofar) : Type 0 where
  pub kept : Extends old.types new.types
  pub sound : IsSound old → IsSound new
  pub state : IsSound old → state new ≡ f (state old)

-- only the bank has grown, and new type variables up to a number are in use
pub record Grown (old new : Typing) (number : ℕ) : Type 0 where
  pub kept : Extends old.types new.types
  pub context : new.context ≡ old.context
  pub pairs : new.pairs ≡ old.pairs
  pub wanted : new.wanted ≡ old.wanted
  pub stack : new.stack ≡ old.stack
  pub next : new.next ≡ number

-- a type was made
pub record Makes (old new : Typing) (number : ℕ) (T : Ty) (id : TypeId) : Type 0 where
  pub grown : Grown old new number
  pub is : IsType new.types id T

-- as many new type variables were made
pub record MakesFresh (old new : Typing) (count : ℕ) (ids : List TypeId) : Type 0 where
  pub grown : Grown old new (old.next + count)
  pub known : AreTypesOf new.types ids
  pub are : trees_of new.types ids ≡ fresh count old.next

-- a constant at new type variables: its type arguments and its type were made
pub record IsConstant (before now : Typing) (arguments : List TypeId) (id : TypeId) (scheme : Scheme) : Type 0 where
  pub grown : Grown before now (before.next + scheme.count)
  pub known : AreTypesOf now.types arguments
  pub are : trees_of now.types arguments ≡ fresh scheme.count before.next
  pub is : IsType now.types id (instance (type_at (fresh scheme.count before.next)) scheme.body)

-- one equation more
pub record IsEquated (left right : TypeId) (old new : Typing) : Type 0 where
  pub types : new.types ≡ old.types
  pub context : new.context ≡ old.context
  pub pairs : new.pairs.items ≡ old.pairs.items ++ (record { left = left; right = right }) ∷ []
  pub wanted : new.wanted ≡ old.wanted
  pub stack : new.stack ≡ old.stack
  pub next : new.next ≡ old.next

-- new type variables for so many variables, where nothing was made before
pub record HasVariables (count : ℕ) (old new : Typing) : Type 0 where
  pub kept : Extends old.types new.types
  pub sound : IsSound old → IsSound new
  pub state : old.context.items ≡ [] → old.pairs.items ≡ [] → old.wanted.items ≡ [] → old.stack.items ≡ [] → state new ≡ sofar (fresh count old.next) (old.next + count) [] (reverse (fresh count old.next)) []

-- the newest part is to have the type of goals
pub record IsEnded (old new : Typing) : Type 0 where
  pub kept : Extends old.types new.types
  pub sound : IsSound old → IsSound new
  pub has : TypeId
  pub others : List TypeId
  pub stack : old.stack.items ≡ others ++ has ∷ []
  pub equations : IsSound old → map (held new.types) new.pairs.items ≡ map (held old.types) old.pairs.items ++ equation (type_tree old.types has.0) o_type ∷ []
  pub wanted : IsSound old → trees_of new.types new.wanted.items ≡ trees_of old.types old.wanted.items

-- the equations of the parts of a text with so many variables, made from a bank on, with new type variables from a number on
pub record IsGenerated (sig : Signature) (text : List ℕ) (steps : List Step) (count : ℕ) (b : Nodes) (next : ℕ) (t : Typing) : Type 0 where
  pub kept : Extends b t.types
  pub pairs : All (IsPair (length t.types.types)) t.pairs.items
  pub wanted : AreTypesOf t.types t.wanted.items
  pub has : Ty
  pub others : List Ty
  pub stack : (run (map (mark text sig.bank count (type_tree b)) steps) (sofar (fresh count next) (next + count) [] (reverse (fresh count next)) [])).stack ≡ has ∷ others
  pub equations : map (held t.types) t.pairs.items ≡
      (run (map (mark text sig.bank count (type_tree b)) steps) (sofar (fresh count next) (next + count) [] (reverse (fresh count next)) [])).equations ++ equation has o_type ∷ []
  pub arguments : trees_of t.types t.wanted.items ≡ (run (map (mark text sig.bank count (type_tree b)) steps) (sofar (fresh count next) (next + count) [] (reverse (fresh count next)) [])).arguments
