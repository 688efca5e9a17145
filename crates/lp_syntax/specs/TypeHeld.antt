-- What the reader of types holds of a text, with its trees.
use Rattle.std.specs.Prelude.{◌≡◌, ℕ, suc, ◌+◌, ◌<◌, ◌≤◌, List, [], ◌∷◌, ◌++◌, length, slice_get, Some}
use Rattle.std.specs.Global.{Global}
use Rattle.std.specs.Prelude.{Vec}
use Rattle.lp_base.specs.declared.place.Spot.{Spot}
use Rattle.lp_syntax.specs.declared.class.Class.TheVariants.{Open, Arrow}
use Rattle.lp_syntax.specs.declared.text.RawTypeNode.{RawTypeNode}
use Rattle.lp_syntax.specs.declared.types.Waiting.{Waiting}
use Rattle.lp_syntax.specs.declared.types.Waiting.TheVariants as waiting
use Rattle.lp_syntax.specs.declared.types.Due.{Due}
use Rattle.lp_syntax.specs.declared.types.Due.TheVariants as due
use Rattle.lp_syntax.specs.declared.types.Turn.{Turn}
use Rattle.lp_syntax.specs.declared.types.Turn.TheVariants as turn
use Rattle.lp_syntax.specs.declared.types.Folded.{Folded}
use Rattle.lp_syntax.specs.declared.types.Folded.TheVariants as folded
use Rattle.lp_syntax.specs.declared.types.TypeEnd.{TypeEnd}
use Rattle.lp_syntax.specs.declared.types.TypeEnd.TheVariants.{Read, Stopped}
use Rattle.lp_syntax.specs.Tokens.{Lexeme, class_at}
use Rattle.lp_syntax.specs.Types.{TypeTree, Head, Side, Whole, IsType}
use Rattle.lp_syntax.specs.RawTypes.{Node, OnNodes, AreBelow, ShowsType}

-- the text, and the token from which the type is read
pub record TypeText : Type 0 where
  pub spot : ℕ → Spot
  pub lexemes : List Lexeme
  pub from : ℕ

abbrev pub type_text : (ℕ → Spot) → List Lexeme → ℕ → TypeText
type_text s ls i = record { spot = s; lexemes = ls; from = i }

-- nodes were added
pub record AreKept (old new : List RawTypeNode) : Type 0 where
  pub longer : length old ≤ length new
  pub kept : (i : ℕ) (n : RawTypeNode) → slice_get old i ≡ Some n → slice_get new i ≡ Some n

-- the tokens up to one are what waits, the newest last
pub data IsHeld (x : TypeText) (nodes : List RawTypeNode) : List Waiting → ℕ → Type 0 where
  at_none : (ks : List Waiting) (i : ℕ) → ks ≡ [] → i ≡ x.from → IsHeld x nodes ks i
  at_arrow : (ks hs : List Waiting) (l i j : ℕ) (t : TypeTree) → ks ≡ hs ++ waiting.Arrow l ∷ [] → IsHeld x nodes hs i → ShowsType x.spot nodes (Node l) t → l < length nodes → IsType x.lexemes Side i j t → class_at x.lexemes j ≡ Arrow → IsHeld x nodes ks (suc j)
  at_group : (ks hs : List Waiting) (i : ℕ) → ks ≡ hs ++ waiting.Group ∷ [] → IsHeld x nodes hs i → class_at x.lexemes i ≡ Open → IsHeld x nodes ks (suc i)
  at_argument : (ks hs : List Waiting) (w i j : ℕ) (xs : Vec ℕ Global) (t : TypeTree) → ks ≡ hs ++ waiting.Argument (x.spot w) xs ∷ [] → IsHeld x
      nodes hs i → ShowsType x.spot nodes (OnNodes w xs.items) t → AreBelow (length nodes) xs.items → IsType x.lexemes Head i j t → class_at x.lexemes
      j ≡ Open → IsHeld x nodes ks (suc j)

-- a word on arguments up to a token, behind what waits
pub record IsApplied (x : TypeText) (nodes : List RawTypeNode) (hs : List Waiting) (at : ℕ) (s : Spot) (xs : Vec ℕ Global) : Type 0 where
  pub start : ℕ
  pub word : ℕ
  pub tree : TypeTree
  pub held : IsHeld x nodes hs start
  pub spot_is : s ≡ x.spot word
  pub shows : ShowsType x.spot nodes (OnNodes word xs.items) tree
  pub below : AreBelow (length nodes) xs.items
  pub type_is : IsType x.lexemes Head start at tree

-- a node that is a type up to a token, behind what waits
pub record IsBuilt (x : TypeText) (nodes : List RawTypeNode) (hs : List Waiting) (at : ℕ) (n : ℕ) : Type 0 where
  pub start : ℕ
  pub tree : TypeTree
  pub held : IsHeld x nodes hs start
  pub shows : ShowsType x.spot nodes (Node n) tree
  pub below : n < length nodes
  pub type_is : IsType x.lexemes Side start at tree

-- the same, with the node that ends a type
pub record IsWhole (x : TypeText) (nodes : List RawTypeNode) (hs : List Waiting) (at : ℕ) (n : ℕ) : Type 0 where
  pub start : ℕ
  pub tree : TypeTree
  pub held : IsHeld x nodes hs start
  pub shows : ShowsType x.spot nodes (Node n) tree
  pub below : n < length nodes
  pub type_is : IsType x.lexemes Whole start at tree

-- the whole type
pub record IsRoot (x : TypeText) (nodes : List RawTypeNode) (at : ℕ) (n : ℕ) : Type 0 where
  pub tree : TypeTree
  pub shows : ShowsType x.spot nodes (Node n) tree
  pub type_is : IsType x.lexemes Whole x.from at tree

-- a type in a bracket
pub record IsGrouped (x : TypeText) (nodes : List RawTypeNode) (hs : List Waiting) (at : ℕ) (n : ℕ) : Type 0 where
  pub start : ℕ
  pub tree : TypeTree
  pub held : IsHeld x nodes hs start
  pub mark : class_at x.lexemes start ≡ Open
  pub shows : ShowsType x.spot nodes (Node n) tree
  pub below : n < length nodes
  pub type_is : IsType x.lexemes Whole (suc start) at tree

-- an argument in a bracket, and the word on the arguments before it
pub record IsInner (x : TypeText) (nodes : List RawTypeNode) (hs : List Waiting) (at : ℕ) (s : Spot) (xs : Vec ℕ Global) (n : ℕ) : Type 0 where
  pub open_at : ℕ
  pub applied : IsApplied x nodes hs open_at s xs
  pub mark : class_at x.lexemes open_at ≡ Open
  pub tree : TypeTree
  pub shows : ShowsType x.spot nodes (Node n) tree
  pub below : n < length nodes
  pub type_is : IsType x.lexemes Whole (suc open_at) at tree

abbrev pub IsDue : TypeText → List RawTypeNode → List Waiting → ℕ → Due → Type 0
IsDue x nodes hs at due.Wants = IsHeld x nodes hs at
IsDue x nodes hs at (due.Applies s xs) = IsApplied x nodes hs at s xs
IsDue x nodes hs at (due.Has n) = IsBuilt x nodes hs at n

abbrev pub IsFolded : TypeText → List RawTypeNode → List Waiting → ℕ → Folded → Type 0
IsFolded x nodes hs at (folded.Whole n) = IsRoot x nodes at n
IsFolded x nodes hs at (folded.Group n) = IsGrouped x nodes hs at n
IsFolded x nodes hs at (folded.Argument s xs n) = IsInner x nodes hs at s xs n

abbrev pub IsTurned : TypeText → List RawTypeNode → List Waiting → ℕ → Turn → Type 0
IsTurned x nodes hs at (turn.Goes d) = IsDue x nodes hs (at + 1) d
IsTurned x nodes hs at (turn.Ends n) = IsRoot x nodes at n
IsTurned x nodes hs at turn.Stops = Unit {0}

-- the type that is handed out is the one that the grammar gives
abbrev pub IsTypeText : TypeText → TypeEnd → Type 0
IsTypeText x (Read ty at) = IsRoot x ty.nodes.items at ty.root
IsTypeText x (Stopped at bracket) = Unit {0}
