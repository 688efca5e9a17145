-- The names of a text while its nodes are gone through: what is found so far, and what is still to be looked at.
use Rattle.std.specs.Prelude.{◌≡◌, ℕ, ◌≤◌, ◌⊎◌, List, [], ◌∷◌, Bool, true, false, Option, Some, None, IfSome, if◌then◌else◌}
use Rattle.std.specs.Map.{lookup}
use Rattle.std.specs.Str.{bytes_eq}
use Rattle.lp_base.specs.declared.place.Spot.{Spot}
use Rattle.lp_syntax.specs.declared.text.RawNode.{RawNode}
use Rattle.lp_sig.specs.declared.signature.Signature.{Signature}
use Rattle.lp_sig.specs.Pieces.{spelled}
use Rattle.lp_infer.specs.Scope.{binds, Undeclared}
use Rattle.lp_infer.specs.inner.Rooms.{Within}
use Rattle.lp_infer.specs.declared.names.Names.{Names}
use Rattle.lp_infer.specs.declared.names.Task.{Task}
use Rattle.lp_infer.specs.declared.names.Task.TheVariants.{Visit, Leave}

-- the spot is not before the fault
abbrev pub Covers : Option Spot → Spot → Type 0
Covers None s = ⊥
Covers (Some f) s = f.from ≤ s.from

-- the fault after a look at these spots: the old one or one of them, and none of them is before it
pub record Finds (Q : Spot → Type 0) (old new : Option Spot) : Type 0 where
  pub is : (new ≡ old) ⊎ ((s : Spot) × (new ≡ Some s) × Q s)
  pub covers : (s : Spot) → Q s → Covers new s
  pub keeps : (s : Spot) → Covers old s → Covers new s

abbrev pub level_at : Option (Option ℕ) → Option ℕ
level_at None = None
level_at (Some level) = level

-- the level of the innermost abstraction that binds a name
unfoldable pub level_in : Names → List ℕ → Option ℕ
level_in names name = level_at (lookup (λ k. bytes_eq name k.items) names.bound.entries)

-- one name has this level, the others have theirs
abbrev pub HasLevel : (name : List ℕ) → Option ℕ → Names → Names → Type 0
HasLevel name level old new = (other : List ℕ) → level_in new other ≡ (if bytes_eq other name then level else level_in old other)

-- an abstraction of a name is open, which had this level outside
pub record IsEntered (name : List ℕ) (old new : Names) (outside : Option ℕ) : Type 0 where
  pub level : ℕ
  pub inside : HasLevel name (Some level) old new
  pub before : outside ≡ level_in old name

abbrev pub is_level : Option ℕ → Bool
is_level None = false
is_level (Some level) = true

abbrev pub rest : List (List ℕ) → List (List ℕ)
rest [] = []
rest (x ∷ xs) = xs

-- the names that have a level are those that these abstractions bind
abbrev pub Tracks : List (List ℕ) → Names → Type 0
Tracks scope names = (name : List ℕ) → is_level (level_in names name) ≡ binds scope name

-- the open abstractions, the innermost first, are those whose ends are among the tasks
abbrev pub AreOpen : List ℕ → List (List ℕ) → List Task → Type 0
AreOpen text scope [] = Unit {0}
AreOpen text scope (Visit n room ∷ ts) = AreOpen text scope ts
AreOpen text [] (Leave x outside ∷ ts) = ⊥
AreOpen text (y ∷ ys) (Leave x outside ∷ ts) = (y ≡ spelled text x) × (is_level outside ≡ binds ys y) × AreOpen text ys ts

-- an undeclared name below one of the nodes that are still to be looked at
abbrev pub Pending : Signature → List ℕ → List RawNode → List (List ℕ) → List Task → Spot → Type 0
Pending sig text nodes scope [] s = ⊥
Pending sig text nodes scope (Visit n room ∷ ts) s = Within sig text nodes room scope n s ⊎ Pending sig text nodes scope ts s
Pending sig text nodes scope (Leave x outside ∷ ts) s = Pending sig text nodes (rest scope) ts s

-- the first undeclared name is the one that is found or one of those below the tasks, the next task first
pub record Scanned (sig : Signature) (text : List ℕ) (nodes : List RawNode) (root : ℕ) (names : Names) (tasks : List Task) : Type 0 where
  pub scope : List (List ℕ)
  pub tracks : Tracks scope names
  pub are_open : AreOpen text scope tasks
  pub right : IfSome names.fault (λ f. Undeclared sig text nodes [] root f)
  pub within : (s : Spot) → Pending sig text nodes scope tasks s → Undeclared sig text nodes [] root s
  pub all : (s : Spot) → Undeclared sig text nodes [] root s → Covers names.fault s ⊎ Pending sig text nodes scope tasks s
