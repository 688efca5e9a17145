-- The trees of newest assumptions: what a tree finds for a head.
use Rattle.std.specs.Prelude.{◌≡◌, ℕ, ◌<◌, ◌≤◌, length, ◌+◌, ◌*◌, ◌/◌, ◌%◌, ◌^◌, Bool, if◌then◌else◌, List, [], ◌∷◌, Option, Some, None, slice_get, nat_eq}
use Rattle.lp_pattern.specs.Growing.{GoesOn}
use Rattle.lp_plain.specs.declared.head.Head.{Head}
use Rattle.lp_plain.specs.declared.head.Head.TheVariants.{Constant, Eigen}
use Rattle.lp_plain.specs.declared.newest.Newest.{Newest}
use Rattle.lp_plain.specs.declared.newest.Step.{Step}
use Rattle.lp_plain.specs.Scopes.{blocks_to}

-- the number whose bits lead to a head
unfoldable pub code_of : Head → ℕ
code_of (Constant c) = 2 * c
code_of (Eigen k) = 2 * (k % 2 ^ 63) + 1

-- whether these bits lead to the odd child
unfoldable pub is_odd : ℕ → Bool
is_odd bits = nat_eq (bits % 2) 1

abbrev pub child_of : Newest → Bool → Option ℕ
child_of n odd = if odd then n.odd else n.even

-- the node with another child
abbrev pub set_child : Newest → (odd : Bool) → (below : ℕ) → Newest
set_child n odd below =
    if odd then record { head = n.head; number = n.number; even = n.even; odd = Some below } else record { head = n.head; number = n.number; even = Some below; odd = n.odd }

-- the head's node with another assumption, or a new node with nothing below it
abbrev pub node_of : Option Newest → Head → (number : ℕ) → Newest
node_of None head number = record { head = head; number = number; even = None; odd = None }
node_of (Some n) head number = record { head = n.head; number = number; even = n.even; odd = n.odd }

-- from a place in the tree on, these bits lead to what is found for the head: its newest assumption, or none. Below each node on the way is an older one
pub data Finds (nodes : List Newest) (head : Head) : Option ℕ → (bits : ℕ) → (found : Option ℕ) → Type 0 where
  nothing : {o : Option ℕ} {bits : ℕ} {found : Option ℕ} → o ≡ None → found ≡ None → Finds nodes head o bits found
  here : {o : Option ℕ} {bits : ℕ} {found : Option ℕ} (i : ℕ) (n : Newest) → o ≡ Some i → slice_get nodes i ≡ Some n → n.head ≡ head → found ≡ Some n.number → Finds nodes head o bits found
  further : {o : Option ℕ} {bits : ℕ} {found : Option ℕ} (i : ℕ) (n : Newest) → o ≡ Some i → slice_get nodes i ≡ Some n → (n.head ≡ head → ⊥) → blocks_to (child_of n (is_odd bits)) ≤ i →
      Finds nodes head (child_of n (is_odd bits)) (bits / 2) found → Finds nodes head o bits found

-- the newest assumption of a head in a tree
abbrev pub IsNewest : List Newest → (tree : Option ℕ) → Head → (found : Option ℕ) → Type 0
IsNewest nodes tree head found = Finds nodes head tree (code_of head) found

-- in the later list the node of this number stands for a place of the earlier tree: it finds the assumption for the head, and for other heads what was found there
pub record IsWith (old new : List Newest) (head : Head) (number : ℕ) (o : Option ℕ) (bits root : ℕ) : Type 0 where
  pub found : Finds new head (Some root) bits (Some number)
  pub others : (other : Head) (b : ℕ) (f : Option ℕ) → (other ≡ head → ⊥) → Finds old other o b f → Finds new other (Some root) b f

-- from the tree the head's bits lead by these nodes, the last one first, to a place with these bits left; none of the nodes is the head's
pub data Comes (nodes : List Newest) (head : Head) (tree : Option ℕ) : List Step → Option ℕ → (bits : ℕ) → Type 0 where
  begins : {steps : List Step} {o : Option ℕ} {bits : ℕ} → steps ≡ [] → o ≡ tree → bits ≡ code_of head → Comes nodes head tree steps o bits
  goes_down : {steps : List Step} {o : Option ℕ} {bits : ℕ} (i b : ℕ) (s : Step) (before : List Step) → steps ≡ s ∷ before → slice_get nodes i ≡ Some s.node → (s.node.head ≡ head → ⊥)
      → s.is_odd ≡ is_odd b → (blocks_to (child_of s.node (is_odd b)) ≤ i → o ≡ child_of s.node (is_odd b)) → bits ≡ b / 2 → Comes nodes head tree before (Some i) b → Comes nodes head tree steps o bits

-- the head's node stands in the place, or nothing is found from there on
abbrev pub IsEnd : List Newest → Head → Option ℕ → (end : Option Newest) → Type 0
IsEnd nodes head o None = (other : Head) (b : ℕ) (f : Option ℕ) → Finds nodes other o b f → f ≡ None
IsEnd nodes head o (Some n) = (i : ℕ) × (o ≡ Some i) × (slice_get nodes i ≡ Some n) × (n.head ≡ head)

-- the way to the place where the head's node stands, or where none does
pub record IsWay (nodes : List Newest) (head : Head) (tree : Option ℕ) (steps : List Step) (end : Option Newest) : Type 0 where
  pub place : Option ℕ
  pub bits : ℕ
  pub comes : Comes nodes head tree steps place bits
  pub is_end : IsEnd nodes head place end

-- nodes for a part of the way are copied, the last of them as this root; the steps that are left lead to the place for which it stands
pub record IsBuilt (old new : List Newest) (head : Head) (tree : Option ℕ) (number : ℕ) (left : List Step) (root : ℕ) : Type 0 where
  pub grown : GoesOn old new
  pub place : Option ℕ
  pub bits : ℕ
  pub comes : Comes old head tree left place bits
  pub stands : IsWith old new head number place bits root
  pub fresh : length old ≤ root
  pub within : root < length new
