-- The nodes of a term as they are handed out, and the tree that they are.
use Rattle.std.specs.Prelude.{◌≡◌, ℕ, suc, ◌+◌, ◌<◌, ◌≤◌, ◌⊎◌, length, List, [], ◌∷◌, codes, slice_get, Option, Some, None, if◌then◌else◌}
use Rattle.std.specs.Str.{bytes_eq}
use Rattle.lp_base.specs.declared.place.Spot.{Spot}
use Rattle.lp_syntax.specs.declared.class.Class.{Class}
use Rattle.lp_syntax.specs.declared.class.Class.TheVariants as class
use Rattle.lp_syntax.specs.declared.node.Node.{Node}
use Rattle.lp_syntax.specs.declared.node.Node.TheVariants as node
use Rattle.lp_syntax.specs.declared.text.RawNode.{RawNode}
use Rattle.lp_syntax.specs.declared.text.RawNode.TheVariants.{Name, Known, Number, Text, App, Abs}
use Rattle.lp_syntax.specs.declared.text.RawType.{RawType}
use Rattle.lp_syntax.specs.Symbols.{Tree, Leaf, Cons, Nil, Lam, App as Applied}
use Rattle.lp_syntax.specs.Tokens.{Lexeme, class_at, bytes_at}
use Rattle.lp_syntax.specs.TypeMachine.{Ends, Stops}
use Rattle.lp_syntax.specs.TypeViews.{ComesTo}
use Rattle.lp_syntax.specs.Types.{TypeTree, IsType, Whole}
use Rattle.lp_syntax.specs.RawTypes.{Node as OneNode, ShowsType}
use Rattle.lp_syntax.specs.TypeHeld.{IsRoot, type_text}

-- a name, a number or a string; `&` is read as `,`, the standard constant 0
abbrev pub leaf_in : Spot → List ℕ → Class → RawNode
leaf_in s text (class.Number n) = Number n s
leaf_in s text class.Text = Text s
leaf_in s text _ = if bytes_eq text (codes "&") then Known 0 s else Name s

unfoldable pub leaf : (ℕ → Spot) → List Lexeme → ℕ → RawNode
leaf spot ls i = leaf_in (spot i) (bytes_at ls i) (class_at ls i)

-- the type that stands behind a colon, up to its backslash
pub record IsNote (spot : ℕ → Spot) (ls : List Lexeme) (colon : ℕ) (ty : RawType) : Type 0 where
  pub end : ℕ
  pub tree : TypeTree
  pub type_is : IsType ls Whole (suc colon) end tree
  pub mark : class_at ls end ≡ class.Backslash
  pub nodes : ShowsType spot ty.nodes.items (OneNode ty.root) tree

-- an annotation is there where its colon is
abbrev pub IsNoted : (ℕ → Spot) → List Lexeme → Option ℕ → Option RawType → Type 0
IsNoted spot ls None None = Unit {0}
IsNoted spot ls (Some c) (Some ty) = IsNote spot ls c ty
IsNoted spot ls _ _ = ⊥

-- the node with this number, and those that it names, are this tree: `::` and `nil` of list notation are the standard constants 14
-- and 15, and each node names older ones
pub data Shows (spot : ℕ → Spot) (ls : List Lexeme) (nodes : List RawNode) : ℕ → Tree → Type 0 where
  leaf_node : (i t : ℕ) → slice_get nodes i ≡ Some (leaf spot ls t) → Shows spot ls nodes i (Leaf t)
  cons_node : (i t : ℕ) → slice_get nodes i ≡ Some (Known 14 (spot t)) → Shows spot ls nodes i (Cons t)
  nil_node : (i t : ℕ) → slice_get nodes i ≡ Some (Known 15 (spot t)) → Shows spot ls nodes i (Nil t)
  app_node : (i f x : ℕ) (t u : Tree) → slice_get nodes i ≡ Some (App f x) → f < i → x < i → Shows spot ls nodes f t → Shows spot ls nodes x u → Shows spot ls nodes i (Applied t u)
  abs_node : (i x v : ℕ) (y : Option ℕ) (note : Option RawType) (t : Tree) → slice_get nodes i ≡ Some (Abs (spot v) note x) → x < i → IsNoted spot ls y note → Shows spot ls nodes x t → Shows spot ls nodes i (Lam v y t)

-- what is read again behind a colon
abbrev pub IsReadNote : (ℕ → Spot) → List Lexeme → Option ℕ → Option RawType → Type 0
IsReadNote spot ls None note = note ≡ None
IsReadNote spot ls (Some c) (Some ty) = (p : ℕ) × ComesTo ls (c + 1) p Ends × IsRoot (type_text spot ls (c + 1)) ty.nodes.items p ty.root
IsReadNote spot ls (Some c) None = (length ls ≤ c) ⊎ ((p : ℕ) × ComesTo ls (c + 1) p Stops)

-- a node as it is handed out
abbrev pub IsRaw : (ℕ → Spot) → List Lexeme → Node → RawNode → Type 0
IsRaw spot ls (node.Leaf t) raw = raw ≡ leaf spot ls t
IsRaw spot ls (node.Cons t) raw = raw ≡ Known 14 (spot t)
IsRaw spot ls (node.Nil t) raw = raw ≡ Known 15 (spot t)
IsRaw spot ls (node.App f x) raw = raw ≡ App f x
IsRaw spot ls (node.Lam v y x) raw = (note : Option RawType) × (raw ≡ Abs (spot v) note x) × IsReadNote spot ls y note

abbrev pub AreRaw : (ℕ → Spot) → List Lexeme → List Node → List RawNode → Type 0
AreRaw spot ls [] [] = Unit {0}
AreRaw spot ls (n ∷ ns) (r ∷ rs) = IsRaw spot ls n r × AreRaw spot ls ns rs
AreRaw spot ls _ _ = ⊥
