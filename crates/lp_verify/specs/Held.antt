-- What stands in a record's registers, and what was ever set of them.
use Rattle.std.specs.Prelude.{ℕ, Bool, ◌||◌, nat_lt, Option, is_none}
use Rattle.std.specs.Ordering.{nat_cmp}
use Rattle.std.specs.BTreeMap.{get}
use Rattle.std.specs.BTreeSet.{contains}
use Rattle.lp_verify.specs.declared.registers.Registers.{Registers}

abbrev pub was_set : {T : Type 0} → Registers T → ℕ → Bool
was_set rs r = nat_lt r rs.started || contains nat_cmp rs.made r

abbrev pub value_in : {T : Type 0} → Registers T → ℕ → Option T
value_in rs r = get nat_cmp rs.held r

abbrev pub is_lacking : {T : Type 0} → Registers T → ℕ → Bool
is_lacking rs r = is_none (value_in rs r)
