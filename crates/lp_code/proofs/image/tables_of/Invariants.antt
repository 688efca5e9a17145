use Rattle.std.proofs.Common.{◌≡◌, drop}
use Rattle.lp_code.proofs.Recording.{ComesTo}
use Rattle.lp_code.proofs.image.tables_of.Given as goal

abbrev pub invariant-loop-of : goal.invariant-loop-of
invariant-loop-of l = (l.number ≡ l.of-index) × ComesTo l.tables.entries l.of-index (drop l.of-index l.records) l.records
