use Rattle.std.proofs.Common.{◌≡◌, map, take}
use Rattle.lp_sig.specs.Rows.{constant_row}
use Rattle.lp_sig.proofs.entries.copies_of_constants.Given as goal

abbrev pub invariant-loop-entry : goal.invariant-loop-entry
invariant-loop-entry l = map constant_row l.copies.items ≡ map constant_row (take l.entry-index l.entries)
