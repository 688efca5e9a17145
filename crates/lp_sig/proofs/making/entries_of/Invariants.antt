use Rattle.std.proofs.Common.{◌≡◌, ◌+◌, ◌≤◌, map, take}
use Rattle.lp_base.specs.declared.limits.TheConstants.{END_OF_NUMBERS}
use Rattle.lp_sig.specs.Rows.{kind_row}
use Rattle.lp_sig.specs.Said.{numbered}
use Rattle.lp_sig.specs.Knowing.{kinded_row}
use Rattle.lp_sig.proofs.making.entries_of.Given as goal

abbrev pub invariant-loop-place : goal.invariant-loop-place
invariant-loop-place l = (map kind_row l.entries.items ≡ numbered 8 (map kinded_row (take l.place l.kinds))) × (8 + l.place ≤ END_OF_NUMBERS)
