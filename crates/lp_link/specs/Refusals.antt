-- Why there is no image.
use Rattle.std.specs.Prelude.{◌≡◌, ◌⊎◌, ℕ, ◌<◌, ◌≤◌, List, [], ◌∷◌, ◌++◌, length, get_or, slice_get, Some, All}
use Rattle.lp_base.specs.declared.limit.Limit.TheVariants as limit
use Rattle.lp_copies.specs.Copies.{Copies}
use Rattle.lp_link.specs.Edges.{Edges}
use Rattle.lp_copies.specs.declared.fault.TreeRefusal.{TreeRefusal}
use Rattle.lp_copies.specs.declared.fault.TreeRefusal.TheVariants as tree
use Rattle.lp_code.specs.declared.object.Object.{Object}
use Rattle.lp_link.specs.declared.fault.LinkRefusal.{LinkRefusal}
use Rattle.lp_link.specs.declared.fault.LinkRefusal.TheVariants as refusal
use Rattle.lp_link.specs.declared.fault.Part.{Part}
use Rattle.lp_link.specs.Uses.{uses_of}
use Rattle.lp_link.specs.Ends.{kinds_end, constants_end}
use Rattle.lp_link.specs.Differences.{number_at, IsOtherPart, IsSameAbove}

abbrev pub refusal_of : TreeRefusal → LinkRefusal
refusal_of tree.TooMany = refusal.Limit limit.Copies
refusal_of tree.Memory = refusal.Memory

abbrev pub HasManyCopies : List Object → (root : ℕ) → Type 0
HasManyCopies os root = (all : List ℕ) → Copies (uses_of os) (root ∷ []) all → 4096 < length all

abbrev pub HasManyNames : List Object → (root : ℕ) → Type 0
HasManyNames os root = (all : List ℕ) → Copies (uses_of os) (root ∷ []) all → (1048576 < kinds_end os root all) ⊎ (1048576 < constants_end os root all)

pub record HasManyRecords (os : List Object) : Type 0 where
  pub number : ℕ
  pub object : Object
  pub there : slice_get os number ≡ Some object
  pub many : 65535 < length object.code.records.items

pub record HasFewCopies (os : List Object) (root : ℕ) : Type 0 where
  pub all : List ℕ
  pub copies : Copies (uses_of os) (root ∷ []) all
  pub few : length all ≤ 4096

abbrev pub HasFewRecords : List Object → Type 0
HasFewRecords os = All (λ o. length o.code.records.items ≤ 65535) os

abbrev pub HasFewNames : List Object → (root : ℕ) → Type 0
HasFewNames os root = (all : List ℕ) → Copies (uses_of os) (root ∷ []) all → (kinds_end os root all ≤ 1048576) × (constants_end os root all ≤ 1048576)

-- the objects of a copy and of the one above it
abbrev pub AreSame : List Object → ℕ × ℕ → Type 0
AreSame os edge = (one other : Object) → slice_get os edge.0 ≡ Some one → slice_get os edge.1 ≡ Some other → IsSameAbove one other

-- each copy below the root exports nothing that the copy above has not, or has otherwise
abbrev pub AreAllSame : List Object → (root : ℕ) → Type 0
AreAllSame os root = (edges : List (ℕ × ℕ)) → Edges (uses_of os) root (get_or (uses_of os) root []) edges → All (AreSame os) edges

-- a copy exports a part that the copy above has not, or has otherwise; no copy before it, in the order of copies, and no part before that one
pub record Differs (os : List Object) (root number : ℕ) (part : Part) : Type 0 where
  pub edges : List (ℕ × ℕ)
  pub are : Edges (uses_of os) root (get_or (uses_of os) root []) edges
  pub before : List (ℕ × ℕ)
  pub after : List (ℕ × ℕ)
  pub below : ℕ
  pub above : ℕ
  pub place : edges ≡ before ++ (below, above) ∷ after
  pub same : All (AreSame os) before
  pub number_is : number ≡ number_at 0 below
  pub one : Object
  pub one_there : slice_get os below ≡ Some one
  pub other : Object
  pub other_there : slice_get os above ≡ Some other
  pub part_is : IsOtherPart one other part

-- nothing is to be refused
pub record CanBeLinked (os : List Object) (root : ℕ) : Type 0 where
  pub copies : HasFewCopies os root
  pub same : AreAllSame os root
  pub records : HasFewRecords os
  pub names : HasFewNames os root

-- the first that is to be refused, in this order: copies, names that differ, records, numbers of names
abbrev pub IsLinkRefusal : List Object → (root : ℕ) → LinkRefusal → Type 0
IsLinkRefusal os root (refusal.Limit limit.Copies) = HasManyCopies os root
IsLinkRefusal os root (refusal.Differ number part) = HasFewCopies os root × Differs os root number part
IsLinkRefusal os root (refusal.Limit limit.Clauses) = HasFewCopies os root × (AreAllSame os root × HasManyRecords os)
IsLinkRefusal os root (refusal.Limit limit.Names) = HasFewCopies os root × (AreAllSame os root × (HasFewRecords os × HasManyNames os root))
IsLinkRefusal os root refusal.Memory = Unit {0}
IsLinkRefusal os root _ = ⊥
