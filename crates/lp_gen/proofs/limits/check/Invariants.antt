use Rattle.std.proofs.Common.{◌≡◌, ◌+◌}
use Rattle.lp_gen.specs.inner.Limiting.{counting_of, source_counts, counts_left, source_work}
use Rattle.lp_gen.proofs.limits.check.Given as goal

abbrev pub decreases-sources : goal.decreases-sources
decreases-sources l = source_work l.bank l.work.items

abbrev pub invariant-sources : goal.invariant-sources
invariant-sources l =
    (l.tally.look ≡ l.fn.look) × (l.fn.room + counts_left l.bank (counting_of l.fn.look) l.work.items ≡ l.tally.room + source_counts l.bank (counting_of l.fn.look) l.source)
