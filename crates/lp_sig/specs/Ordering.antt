-- The numbers that the variables of a declared type are given: each new name, and each `_`, the next one.
use Rattle.std.specs.Prelude.{◌≡◌, ◌<◌, ℕ, List, [], ◌∷◌, ◌++◌, false, Option, Some, take, length, codes, is_some, if◌then◌else◌, slice_index_or}
use Rattle.std.specs.Str.{bytes_eq}
use Rattle.lp_base.specs.declared.place.Spot.{Spot}
use Rattle.lp_calculus.specs.Types.{var}
use Rattle.lp_term.specs.Nodes.{Nodes, type_tree}
use Rattle.lp_term.specs.declared.node.TypeId.{TypeId}
use Rattle.lp_syntax.specs.declared.text.RawTypeNode.{RawTypeNode}
use Rattle.lp_syntax.specs.declared.text.RawTypeNode.TheVariants as node
use Rattle.lp_sig.specs.Pieces.{spelled, begins_variable}
use Rattle.lp_sig.specs.Places.{first_place}
use Rattle.lp_sig.specs.Types.{one_or}
use Rattle.lp_sig.specs.Knowing.{number_of}
use Rattle.lp_sig.specs.Schemes.{place}
use Rattle.lp_sig.specs.declared.expand.Variables.{Variables}

-- behind a variable: the names that have numbers, in the order of these, `_` at each of its places
unfoldable pub names_with : List (List ℕ) → List ℕ → List (List ℕ)
names_with ks name = if bytes_eq name (codes "_") then ks ++ name ∷ [] else (if is_some (first_place name ks) then ks else ks ++ name ∷ [])

-- the number of a variable behind these
unfoldable pub number_with : List (List ℕ) → List ℕ → Option ℕ
number_with ks name = if bytes_eq name (codes "_") then Some (length ks) else one_or (first_place name ks) (Some (length ks))

abbrev pub names_by_word : List ℕ → List (List ℕ) → Spot → List (List ℕ)
names_by_word text ks s = if begins_variable (spelled text s) then names_with ks (spelled text s) else ks

abbrev pub names_by : List ℕ → List (List ℕ) → RawTypeNode → List (List ℕ)
names_by text ks (node.Word s args) = names_by_word text ks s
names_by text ks (node.Arrow a b) = ks

abbrev pub names_behind : List ℕ → List (List ℕ) → List RawTypeNode → List (List ℕ)
names_behind text ks [] = ks
names_behind text ks (n ∷ ns) = names_behind text (names_by text ks n) ns

-- the number of a variable word at a node
abbrev pub in_order : List ℕ → List RawTypeNode → ℕ → Spot → Option ℕ
in_order text nodes i s = number_with (names_behind text [] (take i nodes)) (spelled text s)

-- the variables of a declared type have these names so far
pub record HasNames (v : Variables) (ks : List (List ℕ)) : Type 0 where
  pub opened : v.closed ≡ false
  pub next : v.next ≡ length ks
  pub numbers : (name : List ℕ) → bytes_eq name (codes "_") ≡ false → number_of v name ≡ first_place name ks

-- the types by which variables are replaced: for each that was found the variable of its place
pub record AreNewNames (b : Nodes) (names : List TypeId) (found : List ℕ) : Type 0 where
  pub inside : (x : ℕ) (t : TypeId) → x < length names → (slice_index_or names x t).0 < length b.types
  pub tree : (x : ℕ) (t : TypeId) → x < length names → type_tree b (slice_index_or names x t).0 ≡ var (place found x)
