-- The registers that an ALL sets, by record, as they are kept.
use Rattle.std.specs.Prelude.{◌≡◌, ℕ, nat_eq, nat_lt, Bool, false, ◌&&◌, List, [], ◌∷◌, ◌++◌, length, Option, None, Some, slice_get}
use Rattle.std.specs.Ordering.{nat_cmp}
use Rattle.std.specs.BTreeSet.{BTreeSet, contains}
use Rattle.lp_code.specs.declared.instruction.Instr.{Instr}
use Rattle.lp_code.specs.declared.instruction.Instr.TheVariants as on
use Rattle.lp_code.specs.declared.record.Record.{Record}
use Rattle.lp_code.specs.Denote.{is_set_by_all, sets_by_all}

abbrev pub sets_one_by_all : Instr → ℕ → Bool
sets_one_by_all (on.All d t) r = nat_eq d r
sets_one_by_all i r = false

abbrev pub has_in : Option (BTreeSet ℕ) → ℕ → Bool
has_in None r = false
has_in (Some s) r = contains nat_cmp s r

abbrev pub has_all : List (BTreeSet ℕ) → (number register : ℕ) → Bool
has_all sets k r = has_in (slice_get sets k) r

-- those of one record more
abbrev pub IsAdded : List Instr → (old new : List (BTreeSet ℕ)) → Type 0
IsAdded is old new = (set : BTreeSet ℕ) × (new ≡ old ++ set ∷ []) × ((r : ℕ) → contains nat_cmp set r ≡ is_set_by_all is r)

-- those of the records before one
abbrev pub AllsAre : List Record → (number : ℕ) → List (BTreeSet ℕ) → Type 0
AllsAre rs n sets = (length sets ≡ n) × ((k r : ℕ) → has_all sets k r ≡ (nat_lt k n && sets_by_all (slice_get rs k) r))
