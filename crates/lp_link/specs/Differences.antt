-- What a copy exports otherwise than the copy above it.
use Rattle.std.specs.Prelude.{◌≡◌, ◌≢◌, ◌⊎◌, ◌<◌, ℕ, ◌+◌, ◌-◌, nat_eq, nat_lt, Bool, true, false, ◌&&◌, if◌then◌else◌, List, Option, Some, None, min, slice_get, option_map, option_and_then}
use Rattle.lp_calculus.specs.Types.{Ty, Tys, var, con, arrow, no_types, types}
use Rattle.lp_term.specs.Nodes.{type_tree}
use Rattle.lp_code.specs.declared.object.Object.{Object}
use Rattle.lp_code.specs.declared.object.ObjectKind.{ObjectKind}
use Rattle.lp_code.specs.declared.object.ObjectConstant.{ObjectConstant}
use Rattle.lp_places.specs.Places.{first_place}
use Rattle.lp_link.specs.Uses.{kind_names, constant_names}
use Rattle.lp_link.specs.declared.fault.Part.{Part}
use Rattle.lp_link.specs.declared.fault.Part.TheVariants.{Kind, Constant}

-- the number of the name at a place of a table; numbers have 32 bits
abbrev pub number_at : (first place : ℕ) → ℕ
number_at first place = min (first + min place 4294967295) 4294967295

-- the number that a kind of an object has in the one of the copy above: a standard one its own, an exported one that of its name
abbrev pub kind_above : (below above : List ObjectKind) → ℕ → Option ℕ
kind_above below above k =
    if nat_lt k 8
    then Some k
    else option_and_then (λ kind. if kind.exported then option_map (λ i. 8 + i) (first_place kind.name.items (kind_names above)) else None) (slice_get below (k - 8))

abbrev pub is_number : Option ℕ → ℕ → Bool
is_number None l = false
is_number (Some n) l = nat_eq n l

-- the types of an object and of the one above are one, kinds by their names
abbrev mutual
  pub same_type : (kinds : ℕ → Option ℕ) → Ty → Ty → Bool
  same_type K (var i) (var j) = nat_eq i j
  same_type K (con k ts) (con l us) = is_number (K k) l && same_types K ts us
  same_type K (arrow a b) (arrow c d) = same_type K a c && same_type K b d
  same_type K t u = false

  pub same_types : (kinds : ℕ → Option ℕ) → Tys → Tys → Bool
  same_types K no_types no_types = true
  same_types K (types t ts) (types u us) = same_type K t u && same_types K ts us
  same_types K ts us = false

abbrev pub arity_of : List ObjectKind → List ℕ → Option ℕ
arity_of ks name = option_and_then (λ i. option_map (λ k. k.arity) (slice_get ks i)) (first_place name (kind_names ks))

abbrev pub constant_of : List ObjectConstant → List ℕ → Option ObjectConstant
constant_of cs name = option_and_then (λ i. slice_get cs i) (first_place name (constant_names cs))

-- an exported kind that the copy above has not, or with another count of arguments
pub record IsOtherKind (below above : Object) (place : ℕ) : Type 0 where
  pub kind : ObjectKind
  pub there : slice_get below.kinds.items place ≡ Some kind
  pub exported : kind.exported ≡ true
  pub other : arity_of above.kinds.items kind.name.items ≢ Some kind.arity

abbrev pub HasKinds : (below above : Object) → Type 0
HasKinds below above = (j : ℕ) → IsOtherKind below above j → ⊥

-- another count of type variables, or another type
abbrev pub HasOtherType : (below above : Object) → (one other : ObjectConstant) → Type 0
HasOtherType below above c d = (d.type_vars ≢ c.type_vars) ⊎ (same_type (kind_above below.kinds.items above.kinds.items) (type_tree below.bank c.scheme.0) (type_tree above.bank d.scheme.0) ≡ false)

abbrev pub IsOtherAbove : (below above : Object) → ObjectConstant → Option ObjectConstant → Type 0
IsOtherAbove below above c None = Unit {0}
IsOtherAbove below above c (Some d) = HasOtherType below above c d

-- an exported constant that the copy above has not, or with another type
pub record IsOtherConstant (below above : Object) (place : ℕ) : Type 0 where
  pub constant : ObjectConstant
  pub there : slice_get below.constants.items place ≡ Some constant
  pub exported : constant.exported ≡ true
  pub other : IsOtherAbove below above constant (constant_of above.constants.items constant.name.items)

-- the first such part, kinds before constants
abbrev pub IsOtherPart : (below above : Object) → Part → Type 0
IsOtherPart below above (Kind n) = (i : ℕ) × ((n ≡ number_at 8 i) × (IsOtherKind below above i × ((j : ℕ) → j < i → IsOtherKind below above j → ⊥)))
IsOtherPart below above (Constant n) = (i : ℕ) × ((n ≡ number_at 32 i) × (HasKinds below above × (IsOtherConstant below above i × ((j : ℕ) → j < i → IsOtherConstant below above j → ⊥))))

-- all that an object exports is so in the one of the copy above
pub record IsSameAbove (below above : Object) : Type 0 where
  pub kinds : HasKinds below above
  pub constants : (j : ℕ) → IsOtherConstant below above j → ⊥
