use Rattle.std.proofs.Common.{◌≡◌, ◌+◌, ◌<◌, ◌^◌, length}
use Rattle.lp_gen.specs.inner.GoalCode.{numbers}
use Rattle.lp_gen.proofs.record.records_of.Given as goal

abbrev pub invariant-loop-at : goal.invariant-loop-at
invariant-loop-at l = (l.first + l.assumption.first + l.assumption.count < 2 ^ 32 → l.records.items ≡ numbers (l.first + l.assumption.first) l.at) × (length l.records.items ≡ l.at)
