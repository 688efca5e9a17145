-- Two objects of which a copy of the one stands below a copy of the other.
use Rattle.std.specs.Prelude.{◌≡◌, ℕ, ◌<◌, Bool, true, List, [], ◌∷◌, ◌++◌, length, map, reverse, drop, get_or, slice_get, Some, All}
use Rattle.lp_base.specs.declared.limit.Limit.TheVariants as limit
use Rattle.lp_copies.specs.Copies.{Copies}
use Rattle.lp_link.specs.declared.fault.LinkRefusal.{LinkRefusal}
use Rattle.lp_link.specs.declared.fault.LinkRefusal.TheVariants.{Differ, Limit, Memory}
use Rattle.lp_link.specs.declared.fault.Part.{Part}
use Rattle.lp_link.specs.declared.places.Member.{Member}
use Rattle.lp_link.specs.Differences.{number_at, IsOtherPart, IsSameAbove}
use Rattle.lp_link.specs.Edges.{Edges}

pub record IsOther (members : List Member) (below above number : ℕ) (part : Part) : Type 0 where
  pub number_is : number ≡ number_at 0 below
  pub one : Member
  pub one_there : slice_get members below ≡ Some one
  pub other : Member
  pub other_there : slice_get members above ≡ Some other
  pub part_is : IsOtherPart one.object.now other.object.now part

abbrev pub IsOtherMember : List Member → (below above : ℕ) → LinkRefusal → Type 0
IsOtherMember members below above (Differ number part) = IsOther members below above number part
IsOtherMember members below above Memory = Unit {0}
IsOtherMember members below above e = ⊥

-- the one exports nothing otherwise than the other
abbrev pub AreSameMembers : List Member → ℕ × ℕ → Type 0
AreSameMembers members edge = (one other : Member) → slice_get members edge.0 ≡ Some one → slice_get members edge.1 ≡ Some other → IsSameAbove one.object.now other.object.now

-- pairs that were compared are the same
abbrev pub AreCompared : List Member → (ℕ × ℕ → Bool) → Type 0
AreCompared members met = (edge : ℕ × ℕ) → met edge ≡ true → AreSameMembers members edge

-- the copies that are open, the innermost first: each with the number of the next entry of its list. What is left to do are the copies of the
-- rest of each list, and then the copy itself with the one above it
abbrev pub RestOfEdges : List (List ℕ) → (done : List (ℕ × ℕ)) → (frames : List (ℕ × ℕ)) → (all : List (ℕ × ℕ)) → Type 0
RestOfEdges uses done [] all = done ≡ all
RestOfEdges uses done (f ∷ []) all = (inner : List (ℕ × ℕ)) × Edges uses f.0 (drop f.1 (get_or uses f.0 [])) inner × (done ++ inner ≡ all)
RestOfEdges uses done (f ∷ g ∷ fs) all = (inner : List (ℕ × ℕ)) × Edges uses f.0 (drop f.1 (get_or uses f.0 [])) inner × RestOfEdges uses (done ++ (inner ++ (f.0, g.0) ∷ [])) (g ∷ fs) all

-- how far the comparison has come
pub record IsComparing (members : List Member) (uses : List (List ℕ)) (root : ℕ) (frames : List (ℕ × ℕ)) (around : List ℕ) : Type 0 where
  pub done : List (ℕ × ℕ)
  pub same : All (AreSameMembers members) done
  pub rest : (all : List (ℕ × ℕ)) → Edges uses root (get_or uses root []) all → RestOfEdges uses done frames all
  pub stack : map (λ f. f.0) frames ≡ reverse around

-- there are too many copies
abbrev pub IsCopiesRefusal : (uses : List (List ℕ)) → (root : ℕ) → LinkRefusal → Type 0
IsCopiesRefusal uses root (Limit limit.Copies) = (all : List ℕ) → Copies uses (root ∷ []) all → 4096 < length all
IsCopiesRefusal uses root Memory = Unit {0}
IsCopiesRefusal uses root e = ⊥

-- the first copy that exports something otherwise than the one above it
pub record Differing (members : List Member) (edges : List (ℕ × ℕ)) (number : ℕ) (part : Part) : Type 0 where
  pub before : List (ℕ × ℕ)
  pub after : List (ℕ × ℕ)
  pub below : ℕ
  pub above : ℕ
  pub place : edges ≡ before ++ (below, above) ∷ after
  pub same : All (AreSameMembers members) before
  pub is_other : IsOther members below above number part

abbrev pub IsCompareRefusal : List Member → (uses : List (List ℕ)) → (root : ℕ) → LinkRefusal → Type 0
IsCompareRefusal members uses root (Differ number part) = (edges : List (ℕ × ℕ)) → Edges uses root (get_or uses root []) edges → Differing members edges number part
IsCompareRefusal members uses root e = IsCopiesRefusal uses root e

-- each copy exports nothing otherwise than the one above it
abbrev pub AreAllCompared : List Member → (uses : List (List ℕ)) → (root : ℕ) → Type 0
AreAllCompared members uses root = (edges : List (ℕ × ℕ)) → Edges uses root (get_or uses root []) edges → All (AreSameMembers members) edges
