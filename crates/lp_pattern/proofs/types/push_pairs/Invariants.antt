use Rattle.std.proofs.Common.{◌≡◌, ◌++◌, ◌-◌, reverse, drop, length}
use Rattle.lp_pattern.specs.Reading.{paired}
use Rattle.lp_pattern.proofs.types.push_pairs.Given as goal

abbrev pub invariant-loop-done : goal.invariant-loop-done
invariant-loop-done l = l.left.items ≡ l.initial.left.items ++ reverse (paired (drop (length l.lefts - l.done) l.lefts) (drop (length l.lefts - l.done) l.rights))
