use Rattle.std.proofs.Common.{◌≡◌, map, take}
use Rattle.lp_sig.specs.Rows.{kind_row}
use Rattle.lp_sig.proofs.entries.copies_of_kinds.Given as goal

abbrev pub invariant-loop-entry : goal.invariant-loop-entry
invariant-loop-entry l = map kind_row l.copies.items ≡ map kind_row (take l.entry-index l.entries)
