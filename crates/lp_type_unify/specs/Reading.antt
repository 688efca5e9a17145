-- What bindings say of the type variables, and of lists of types and of pairs.
use Rattle.std.specs.Prelude.{◌≡◌, ℕ, ◌<◌, List, [], ◌∷◌, map, reverse, length, Option, Some, None, nat_eq}
use Rattle.indexmap.specs.IndexMap.{IndexMap, get}
use Rattle.lp_calculus.specs.Types.{Ty, var, instance}
use Rattle.lp_term.specs.declared.node.TypeId.{TypeId}
use Rattle.lp_term.specs.Nodes.{Nodes, type_tree}
use Rattle.lp_type_laws.specs.Equations.{one, Equation, equation}
use Rattle.lp_type_unify.specs.declared.bindings.Pair.{Pair}

-- the types for the variables after one more is bound to what t then is
abbrev pub and_bound : ℕ → Ty → (ℕ → Ty) → ℕ → Ty
and_bound x t θ i = instance (one x (instance θ t)) (θ i)

-- the types for the variables after these bindings, the oldest first
abbrev pub reading_from : (ℕ → Ty) → (ℕ → Ty) → List (ℕ × TypeId) → ℕ → Ty
reading_from τ θ [] = θ
reading_from τ θ (b ∷ bs) = reading_from τ (and_bound b.0 (τ b.1.0) θ) bs

abbrev pub reading : (ℕ → Ty) → List (ℕ × TypeId) → ℕ → Ty
reading τ bs = reading_from τ var bs

-- a variable is bound to an older one, or to no variable
abbrev pub IsOlder : ℕ → Ty → Type 0
IsOlder x (var y) = y < x
IsOlder x _ = Unit {0}

-- what the binding of x says, in a bank of n types
abbrev pub Slot : (ℕ → Ty) → (n : ℕ) → (ℕ → Ty) → ℕ → Option TypeId → Type 0
Slot τ n θ x None = θ x ≡ var x
Slot τ n θ x (Some t) = (θ x ≡ instance θ (τ t.0)) × IsOlder x (τ t.0) × (t.0 < n)

abbrev pub Kept : (ℕ → Ty) → (n : ℕ) → (ℕ → Option TypeId) → (ℕ → Ty) → Type 0
Kept τ n bound θ = (x : ℕ) → Slot τ n θ x (bound x)

-- the type of each type variable
abbrev pub reads : {S : Type 0} → Nodes → IndexMap ℕ TypeId S → ℕ → Ty
reads bank made = reading (type_tree bank) made.entries

-- the bindings are to types of the bank, and say of each variable what they read as
abbrev pub AreKept : {S : Type 0} → Nodes → IndexMap ℕ TypeId S → Type 0
AreKept bank made = Kept (type_tree bank) (length bank.types) (get nat_eq made) (reads bank made)

abbrev pub read_pair : (ℕ → Ty) → (ℕ → Ty) → Pair → Equation
read_pair τ θ p = equation (instance θ (τ p.left.0)) (instance θ (τ p.right.0))

-- the equations of pairs, the last one first
abbrev pub read_pairs : (ℕ → Ty) → (ℕ → Ty) → List Pair → List Equation
read_pairs τ θ ps = reverse (map (read_pair τ θ) ps)

-- both types are among the first n of the bank
abbrev pub IsPair : ℕ → Pair → Type 0
IsPair n p = (p.left.0 < n) × (p.right.0 < n)
