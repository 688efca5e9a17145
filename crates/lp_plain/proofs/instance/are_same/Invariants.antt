use Rattle.std.proofs.Common.{◌≡◌, drop}
use Rattle.lp_plain.proofs.instance.are_same.Given as goal

abbrev pub invariant-loop-place : goal.invariant-loop-place
invariant-loop-place l = drop l.place l.ones ≡ drop l.place l.others → l.ones ≡ l.others
