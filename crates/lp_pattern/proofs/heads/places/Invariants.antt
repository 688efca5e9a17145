use Rattle.std.proofs.Common.{◌≡◌, ◌++◌, drop, length}
use Rattle.lp_pattern.specs.Reading.{paired}
use Rattle.lp_pattern.proofs.heads.places.Given as goal

abbrev pub invariant-loop-one : goal.invariant-loop-one
invariant-loop-one l = l.pairs.items ++ paired (drop (length l.yielded) l.ones) (drop (length l.yielded) l.others) ≡ paired l.ones l.others
