-- Shared nodes: what a look with marks still has to find, nodes that are joined, and what is left to do.
use Rattle.std.specs.Prelude.{◌≡◌, ℕ, suc, ◌<◌, ◌≤◌, ◌⊎◌, List, [], ◌∷◌, ◌++◌, map, reverse, length, Option, Some, None, Bool, true, false, All}
use Rattle.indexmap.specs.IndexMap.{IndexMap}
use Rattle.lp_calculus.specs.Types.{Ty, instance}
use Rattle.lp_term.specs.declared.node.TypeId.{TypeId}
use Rattle.lp_term.specs.Nodes.{Nodes, type_tree}
use Rattle.lp_type_laws.specs.Equations.{Follows, Equation, equation, occurs, size, one, AllHold}
use Rattle.lp_type_laws.specs.Solving.{solve, fails, turn, clashes, goes}
use Rattle.lp_type_laws.proofs.Counts.{turns}
use Rattle.lp_type_unify.specs.declared.bindings.Pair.{Pair}
use Rattle.lp_type_unify.specs.declared.shared.Task.{Task}
use Rattle.lp_type_unify.specs.Reading.{reads, AreKept, IsPair, read_pair, read_pairs}
use Rattle.lp_type_unify.specs.Looking.{IsMade}

-- x occurs in one of these types that has fewer than n nodes
abbrev pub Lies : ℕ → ℕ → List Ty → Type 0
Lies x n [] = ⊥
Lies x n (t ∷ ts) = ((occurs x t ≡ true) × (size t < n)) ⊎ Lies x n ts

-- what a node is joined to
abbrev pub IsLower : ℕ → Option ℕ → Type 0
IsLower i None = Unit {0}
IsLower i (Some j) = j < i

abbrev pub IsOne : (ℕ → Ty) → ℕ → (ℕ → Ty) → ℕ → Option ℕ → Type 0
IsOne τ n θ i None = Unit {0}
IsOne τ n θ i (Some j) = (j < i) × (j < n) × IsMade (τ j) × (instance θ (τ i) ≡ instance θ (τ j))

-- joined nodes are one type, no variable
abbrev pub AreJoined : (ℕ → Ty) → ℕ → (ℕ → Ty) → (ℕ → Option ℕ) → Type 0
AreJoined τ n θ joined = (i : ℕ) → IsOne τ n θ i (joined i)

pub record IsRoot (τ : ℕ → Ty) (n : ℕ) (θ : ℕ → Ty) (id root : TypeId) : Type 0 where
  pub same : instance θ (τ root.0) ≡ instance θ (τ id.0)
  pub made : IsMade (τ id.0) → IsMade (τ root.0)
  pub known : id.0 < n → root.0 < n

-- after a pair is joined a node is joined as before, or it is the one of the pair, to the other
abbrev pub IsJoined : Pair → ℕ → (old new : Option ℕ) → Type 0
IsJoined p i old new =
    (new ≡ old) ⊎ (((i ≡ p.right.0) × (p.left.0 < p.right.0) × (new ≡ Some p.left.0)) ⊎ ((i ≡ p.left.0) × (p.right.0 < p.left.0) × (new ≡ Some p.right.0)))

-- the pairs that are still to be taken
abbrev pub takes : List Task → List Pair
takes [] = []
takes (Task.Take p ∷ ts) = p ∷ takes ts
takes (Task.Join p ∷ ts) = takes ts

abbrev pub read_tasks : (ℕ → Ty) → (ℕ → Ty) → List Task → List Equation
read_tasks τ θ ts = read_pairs τ θ (takes ts)

abbrev pub joins : List Task → ℕ
joins [] = 0
joins (Task.Take p ∷ ts) = joins ts
joins (Task.Join p ∷ ts) = suc (joins ts)

abbrev pub IsTask : (ℕ → Ty) → ℕ → Task → Type 0
IsTask τ n (Task.Take p) = IsPair n p
IsTask τ n (Task.Join p) = IsPair n p × IsMade (τ p.left.0) × IsMade (τ p.right.0)

-- ρ makes the pair one type
abbrev pub IsOneUnder : (ℕ → Ty) → (ℕ → Ty) → Pair → Type 0
IsOneUnder τ ρ p = instance ρ (τ p.left.0) ≡ instance ρ (τ p.right.0)

-- of tasks, the next one first: a pair to be joined is one type once all pairs to be taken before it are
abbrev pub Sure : (ℕ → Ty) → (ℕ → Ty) → List Task → Type 0
Sure τ ρ [] = Unit {0}
Sure τ ρ (Task.Take p ∷ ts) = IsOneUnder τ ρ p → Sure τ ρ ts
Sure τ ρ (Task.Join p ∷ ts) = IsOneUnder τ ρ p × Sure τ ρ ts

pub record State {S : Type 0} (bank : Nodes) (made : IndexMap ℕ TypeId S) (joined : ℕ → Option ℕ) (todo : List Task) : Type 0 where
  pub kept : AreKept bank made
  pub todos : All (IsTask (type_tree bank) (length bank.types)) todo
  pub follows : Follows (reads bank made) (reads bank made)
  pub sure : (ρ : ℕ → Ty) → Follows ρ (reads bank made) → Sure (type_tree bank) ρ (reverse todo)
  pub one : AreJoined (type_tree bank) (length bank.types) (reads bank made) joined

-- two types were joined already, or their parts are to be taken and then they are to be joined
pub record Opens (τ θ : ℕ → Ty) (a b : TypeId) (old new : List Task) : Type 0 where
  pub pair : Pair
  pub parts : List Pair
  pub tasks : new ≡ (old ++ Task.Join pair ∷ []) ++ map Task.Take parts
  pub left : instance θ (τ pair.left.0) ≡ instance θ (τ a.0)
  pub right : instance θ (τ pair.right.0) ≡ instance θ (τ b.0)
  pub turns : (es : List Equation) → turn (equation (instance θ (τ a.0)) (instance θ (τ b.0))) es θ ≡ goes (read_pairs τ θ parts ++ es) θ
  pub whole : (ρ : ℕ → Ty) → AllHold ρ (read_pairs τ θ parts) → instance ρ (instance θ (τ a.0)) ≡ instance ρ (instance θ (τ b.0))

abbrev pub Apart : Bool → (τ θ : ℕ → Ty) (a b : TypeId) (old new : List Task) → Type 0
Apart true τ θ a b old new = ((new ≡ old) × (instance θ (τ a.0) ≡ instance θ (τ b.0))) ⊎ Opens τ θ a b old new
Apart false τ θ a b old new = (es : List Equation) → turn (equation (instance θ (τ a.0)) (instance θ (τ b.0))) es θ ≡ clashes

-- x was bound to t, or it occurs in t
abbrev pub BoundApart : Bool → ℕ → Ty → (θ ι : ℕ → Ty) → (Kept : Type 0) → Type 0
BoundApart true x t θ ι Kept = (occurs x t ≡ false) × (ι ≡ (λ i. instance (one x t) (θ i))) × Kept
BoundApart false x t θ ι Kept = occurs x t ≡ true

-- what is left comes of what was there
pub record Advances (all : List Equation) (θ : ℕ → Ty) (fs : List Equation) (ι : ℕ → Ty) : Type 0 where
  pub reaches : (n : ℕ) → (m : ℕ) × (solve m all θ ≡ solve n fs ι)
  pub fewer : turns fs ι < turns all θ

abbrev pub Taken : {S : Type 0} → Bool → Nodes → (made now : IndexMap ℕ TypeId S) → (ℕ → Option ℕ) → Pair → (old new : List Task) → Type 0
Taken true bank made now joined p old new =
    State bank now joined new × (joins new ≤ suc (joins old)) ×
    Advances (read_pair (type_tree bank) (reads bank made) p ∷ read_tasks (type_tree bank) (reads bank made) old) (reads bank made)
    (read_tasks (type_tree bank) (reads bank now) new) (reads bank now)
Taken false bank made now joined p old new =
    (m : ℕ) × (solve m (read_pair (type_tree bank) (reads bank made) p ∷ read_tasks (type_tree bank) (reads bank made) old) (reads bank made) ≡ fails)
