use Rattle.std.proofs.Common.{◌≡◌, ◌++◌, ◌-◌, reverse, drop, length}
use Rattle.lp_pattern.specs.Comparing.{pairs_of}
use Rattle.lp_pattern.proofs.compare.push_pairs.Given as goal

abbrev pub invariant-loop-done : goal.invariant-loop-done
invariant-loop-done l = l.left.items ≡ l.initial.left.items ++ reverse (pairs_of l.level (drop (length l.lefts - l.done) l.lefts) (drop (length l.lefts - l.done) l.rights))
