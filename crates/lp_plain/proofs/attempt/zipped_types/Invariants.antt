use Rattle.std.proofs.Common.{◌≡◌, ◌++◌, drop, length}
use Rattle.lp_pattern.specs.Reading.{paired}
use Rattle.lp_plain.proofs.attempt.zipped_types.Given as goal

abbrev pub invariant-places : goal.invariant-places
invariant-places l = l.pairs.items ++ paired (drop (length l.yielded) l.lefts) (drop (length l.yielded) l.rights) ≡ paired l.lefts l.rights
