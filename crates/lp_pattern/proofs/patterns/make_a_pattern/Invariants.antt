use Rattle.std.proofs.Common.{◌≡◌, drop}
use Rattle.std.specs.Prelude.{◌&&◌}
use Rattle.lp_model.specs.Look.{are_distinct, are_above}
use Rattle.lp_pattern.proofs.patterns.make_a_pattern.Given as goal

abbrev pub invariant-loop-place : goal.invariant-loop-place
invariant-loop-place l = (are_distinct l.ks && are_above l.level l.ks) ≡ (are_distinct (drop l.place l.ks) && are_above l.level (drop l.place l.ks))
