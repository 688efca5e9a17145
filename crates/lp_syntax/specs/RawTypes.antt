-- The nodes of a type as they are handed out, and the tree that they are.
use Rattle.std.specs.Prelude.{◌≡◌, ℕ, ◌<◌, List, [], ◌∷◌, ◌++◌, slice_get, Some}
use Rattle.std.specs.Global.{Global}
use Rattle.std.specs.Prelude.{Vec}
use Rattle.lp_base.specs.declared.place.Spot.{Spot}
use Rattle.lp_syntax.specs.declared.text.RawTypeNode.{RawTypeNode}
use Rattle.lp_syntax.specs.declared.text.RawTypeNode.TheVariants.{Word, Arrow}
use Rattle.lp_syntax.specs.Types.{TypeTree, Named, Applied, Arrows}

pub data Part : Type 0 where
  -- the node with this number
  Node : ℕ → Part
  -- the word with this number on the nodes with these numbers
  OnNodes : ℕ → List ℕ → Part

abbrev pub AreBelow : ℕ → List ℕ → Type 0
AreBelow n [] = Unit {0}
AreBelow n (x ∷ xs) = (x < n) × AreBelow n xs

-- a part of these nodes is this tree; each node names older ones
pub data ShowsType (spot : ℕ → Spot) (nodes : List RawTypeNode) : Part → TypeTree → Type 0 where
  on_none : (w : ℕ) (xs : List ℕ) → xs ≡ [] → ShowsType spot nodes (OnNodes w xs) (Named w)
  on_more : (w a : ℕ) (xs ys : List ℕ) (t u : TypeTree) → ys ≡ xs ++ a ∷ [] → ShowsType spot nodes (OnNodes w xs) t → ShowsType spot nodes (Node a) u → ShowsType spot nodes (OnNodes w ys) (Applied t u)
  word_node : (i w : ℕ) (xs : Vec ℕ Global) (t : TypeTree) → slice_get nodes i ≡ Some (Word (spot w) xs) → AreBelow i xs.items → ShowsType spot nodes (OnNodes w xs.items) t → ShowsType spot nodes (Node i) t
  arrow_node : (i l r : ℕ) (t u : TypeTree) → slice_get nodes i ≡ Some (Arrow l r) → l < i → r < i → ShowsType spot nodes (Node l) t → ShowsType spot nodes (Node r) u → ShowsType spot nodes (Node i) (Arrows t u)
