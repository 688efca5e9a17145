use Rattle.std.proofs.Common.{◌≡◌, map, take}
use Rattle.lp_link.specs.inner.Parts.{raised_to}
use Rattle.lp_link.proofs.records.Numbers.records.Given as goal

abbrev pub invariant-loop-at : goal.invariant-loop-at
invariant-loop-at l = l.records.items ≡ map (raised_to l.fn.self.first) (take l.at l.fn.numbers.items)
