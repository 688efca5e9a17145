-- How deep the trees of terms and of types are. A leaf is 1 deep; a head with its arguments, however many, is one level above them; an
-- abstraction is one level above its body. So a list of n names is n + 1 deep, since each tail is an argument of the item before it.
use Rattle.std.specs.Prelude.{◌≡◌, ℕ, suc, ◌+◌, ◌-◌, ◌^◌, ◌<◌, ◌≤◌, max, min, Bool, true, false, List, length, get_or, Option, Some, None}
use Rattle.lp_base.specs.declared.limits.TheConstants.{MAX_TERM_DEPTH}
use Rattle.lp_base.specs.declared.place.Spot.{Spot}
use Rattle.lp_syntax.specs.declared.class.Class.TheVariants.{Backslash}
use Rattle.lp_syntax.specs.declared.text.RawNode.{RawNode}
use Rattle.lp_syntax.specs.declared.text.RawNode.TheVariants.{Abs}
use Rattle.lp_syntax.specs.declared.text.RawType.{RawType}
use Rattle.lp_syntax.specs.declared.text.RawTypeNode.{RawTypeNode}
use Rattle.lp_syntax.specs.Symbols.{Tree, Leaf, Cons, Nil, App, Lam}
use Rattle.lp_syntax.specs.Tokens.{Lexeme, class_at}
use Rattle.lp_syntax.specs.Types.{TypeTree, Named, Applied, Arrows, IsType, Whole}
use Rattle.lp_syntax.specs.Raw.{Shows}
use Rattle.lp_syntax.specs.RawTypes.{Node, ShowsType}

-- what the right side of an arrow, so deep, adds: a chain of arrows is one level above its arguments and its target
abbrev pub as_target : TypeTree → ℕ → ℕ
as_target (Arrows t u) n = n
as_target _ n = n + 1

-- a word is one level above its arguments
abbrev pub type_depth : TypeTree → ℕ
type_depth (Named w) = 1
type_depth (Applied t u) = max (type_depth t) (type_depth u + 1)
type_depth (Arrows t u) = max (type_depth t + 1) (as_target u (type_depth u))

-- what a head, so deep, adds: an abstraction as a head stands where the arguments do, and an application is a head with its first arguments
abbrev pub as_head : Tree → ℕ → ℕ
as_head (Lam v y b) m = m + 1
as_head _ m = m

-- a term is so deep; an annotation stands below its binder, beside the body
pub data HasDepth (ls : List Lexeme) : Tree → ℕ → Type 0 where
  leaf : (s : ℕ) → HasDepth ls (Leaf s) 1
  cons : (s : ℕ) → HasDepth ls (Cons s) 1
  nil : (s : ℕ) → HasDepth ls (Nil s) 1
  applied : (f x : Tree) (k m n : ℕ) → HasDepth ls f m → HasDepth ls x n → k ≡ max (as_head f m) (n + 1) → HasDepth ls (App f x) k
  abstracted : (v : ℕ) (b : Tree) (k n : ℕ) → HasDepth ls b n → k ≡ n + 1 → HasDepth ls (Lam v None b) k
  annotated : (v colon end : ℕ) (b : Tree) (t : TypeTree) (k n : ℕ) → HasDepth ls b n → IsType ls Whole (suc colon) end t → class_at ls end ≡ Backslash → k ≡ max n (type_depth t) + 1 → HasDepth ls (Lam v (Some colon) b) k

-- the term of a sentence or of a query is at most 2,000 deep
abbrev pub TermFits : List Lexeme → Tree → Type 0
TermFits ls t = (n : ℕ) × HasDepth ls t n × (n ≤ MAX_TERM_DEPTH)

abbrev pub TermTooDeep : List Lexeme → Tree → Type 0
TermTooDeep ls t = (n : ℕ) × HasDepth ls t n × (MAX_TERM_DEPTH < n)

-- what is counted, in 64 bits, as far as they go
abbrev pub counted : ℕ → ℕ
counted n = min n (2 ^ 64 - 1)

abbrev pub IsDepth : List Lexeme → Tree → ℕ → Type 0
IsDepth ls t d = (n : ℕ) × HasDepth ls t n × (d ≡ counted n)

-- the counts for the first nodes
abbrev pub AreTypeDepths : List RawTypeNode → List ℕ → Type 0
AreTypeDepths nodes ds = (spot : ℕ → Spot) (i : ℕ) (t : TypeTree) → i < length ds → ShowsType spot nodes (Node i) t → get_or ds i 0 ≡ counted (type_depth t)

abbrev pub AreDepths : List RawNode → List ℕ → Type 0
AreDepths nodes ds = (spot : ℕ → Spot) (ls : List Lexeme) (i : ℕ) (t : Tree) → i < length ds → Shows spot ls nodes i t → IsDepth ls t (get_or ds i 0)

abbrev pub binds : RawNode → Bool
binds (Abs s y x) = true
binds _ = false

-- the count for an annotation, 0 for none
abbrev pub IsNoteDepth : Option RawType → ℕ → Type 0
IsNoteDepth None d = d ≡ 0
IsNoteDepth (Some ty) d = (spot : ℕ → Spot) (t : TypeTree) → ShowsType spot ty.nodes.items (Node ty.root) t → d ≡ counted (type_depth t)
