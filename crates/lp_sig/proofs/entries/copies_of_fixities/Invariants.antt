use Rattle.std.proofs.Common.{◌≡◌, map, take}
use Rattle.lp_sig.specs.Rows.{fixity_row}
use Rattle.lp_sig.proofs.entries.copies_of_fixities.Given as goal

abbrev pub invariant-loop-entry : goal.invariant-loop-entry
invariant-loop-entry l = map fixity_row l.copies.items ≡ map fixity_row (take l.entry-index l.entries)
