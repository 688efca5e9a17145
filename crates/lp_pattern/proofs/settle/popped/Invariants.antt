use Rattle.std.proofs.Common.{◌≡◌, ◌++◌, reverse, length}
use Rattle.lp_pattern.proofs.settle.popped.Given as goal

abbrev pub invariant-loop : goal.invariant-loop
invariant-loop l = record {
  made : l.initial.made.items ≡ l.made.items ++ reverse l.ids.items;
  count : length l.ids.items ≡ l.counter;
}
