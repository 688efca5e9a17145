use Rattle.std.proofs.Common.{◌≡◌, ◌++◌, ◌-◌, length}
use Rattle.lp_pattern.specs.Stripping.{wanted_at}
use Rattle.lp_pattern.proofs.patterns.push_wanted.Given as goal

abbrev pub invariant-loop-term : goal.invariant-loop-term
invariant-loop-term l = record {
  place : l.place ≡ l.count - length l.yielded;
  items : l.left.items ≡ l.initial.left.items ++ wanted_at l.count l.yielded;
}
