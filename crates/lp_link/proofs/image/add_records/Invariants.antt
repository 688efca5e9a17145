use Rattle.std.proofs.Common.{◌≡◌, ◌+◌, length, take}
use Rattle.lp_link.specs.inner.Parts.{map_in, AddsMoved}
use Rattle.lp_link.proofs.image.add_records.Given as goal

abbrev pub invariant-loop-at : goal.invariant-loop-at
invariant-loop-at l = (length l.records.items ≡ length l.fn.records.items + l.at) × AddsMoved (map_in l.fn.numbers) l.fn.numbers.first (take l.at l.fn.of) l.fn.records.items l.records.items
