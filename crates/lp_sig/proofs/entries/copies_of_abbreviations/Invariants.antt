use Rattle.std.proofs.Common.{◌≡◌, map, take}
use Rattle.lp_sig.specs.Rows.{abbreviation_row}
use Rattle.lp_sig.proofs.entries.copies_of_abbreviations.Given as goal

abbrev pub invariant-loop-entry : goal.invariant-loop-entry
invariant-loop-entry l = map abbreviation_row l.copies.items ≡ map abbreviation_row (take l.entry-index l.entries)
