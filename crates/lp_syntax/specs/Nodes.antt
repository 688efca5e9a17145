-- The trees of numbered nodes.
use Rattle.std.specs.Prelude.{◌≡◌, ℕ, ◌<◌, ◌≤◌, List, [], ◌∷◌, ◌++◌, length, get_or, slice_get, Option, Some, None}
use Rattle.lp_syntax.specs.declared.node.Node.{Node}
use Rattle.lp_syntax.specs.declared.node.Node.TheVariants as node
use Rattle.lp_syntax.specs.Symbols.{Tree, Leaf, Cons, Nil, App, Lam}

abbrev pub at : List Tree → ℕ → Tree
at ts i = get_or ts i (Leaf 0)

abbrev pub node_tree : List Tree → Node → Tree
node_tree ts (node.Leaf s) = Leaf s
node_tree ts (node.Cons s) = Cons s
node_tree ts (node.Nil s) = Nil s
node_tree ts (node.App f x) = App (at ts f) (at ts x)
node_tree ts (node.Lam s y x) = Lam s y (at ts x)

abbrev pub trees_from : List Tree → List Node → List Tree
trees_from ts [] = ts
trees_from ts (n ∷ ns) = trees_from (ts ++ node_tree ts n ∷ []) ns

unfoldable pub trees : List Node → List Tree
trees ns = trees_from [] ns

abbrev pub maybe : List Tree → Option ℕ → Option Tree
maybe ts None = None
maybe ts (Some i) = Some (at ts i)

abbrev pub IsMaybeBelow : ℕ → Option ℕ → Type 0
IsMaybeBelow n None = Unit {0}
IsMaybeBelow n (Some i) = i < n

abbrev pub IsBelow : ℕ → ℕ → Type 0
IsBelow n i = i < n

-- a node names nodes below this number
abbrev pub IsNodeBelow : ℕ → Node → Type 0
IsNodeBelow n (node.Leaf s) = Unit {0}
IsNodeBelow n (node.Cons s) = Unit {0}
IsNodeBelow n (node.Nil s) = Unit {0}
IsNodeBelow n (node.App f x) = (f < n) × (x < n)
IsNodeBelow n (node.Lam s y x) = x < n

-- each node names older ones
abbrev pub IsOrdered : List Node → Type 0
IsOrdered ns = (i : ℕ) (n : Node) → slice_get ns i ≡ Some n → IsNodeBelow i n

-- nodes were added, each of which names older ones, and the older ones have their trees
pub record Grows (old new : List Node) : Type 0 where
  pub longer : length old ≤ length new
  pub kept : (i : ℕ) → i < length old → at (trees new) i ≡ at (trees old) i
  pub ordered : IsOrdered old → IsOrdered new
