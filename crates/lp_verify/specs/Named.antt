-- The records that an ASSUME has named so far.
use Rattle.std.specs.Prelude.{◌≡◌, ℕ, Bool, ◌||◌, List, is_some}
use Rattle.std.specs.Ordering.{nat_cmp}
use Rattle.std.specs.BTreeMap.{BTreeMap, get}
use Rattle.lp_code.specs.States.{member}

abbrev pub was_named : BTreeMap ℕ ℕ → ℕ → Bool
was_named m n = is_some (get nat_cmp m n)

-- these were named besides
abbrev pub HasNamed : (names : List ℕ) → (old new : BTreeMap ℕ ℕ) → Type 0
HasNamed ns old new = (n : ℕ) → was_named new n ≡ (was_named old n || member n ns)
