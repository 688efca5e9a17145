use Rattle.std.proofs.Common.{◌≡◌, ◌≤◌, ◌-◌, length}
use Rattle.std.specs.Prelude.{nat_eq, ◌⊎◌}
use Rattle.std.specs.HashMap.{get}
use Rattle.lp_plain.specs.Candidates.{IsLinked, numbers_from}
use Rattle.lp_plain.proofs.candidates.add_span.Given as goal

abbrev pub invariant-rules : goal.invariant-rules
invariant-rules l = record {
  within : l.left ≤ l.span.to;
  count : length l.rules.items ≡ length l.fn.rules.items;
  begun : (l.span.from ≤ l.left) ⊎ (l.left ≡ l.span.to);
  linked : IsLinked l.bank l.fn.rules.items l.rules.items (λ c. get nat_eq l.fn.index c) (λ c. get nat_eq l.index c) (numbers_from (l.span.to - l.left) l.left) l.fn.behind l.left;
}

abbrev pub decreases-rules : goal.decreases-rules
decreases-rules l = l.left
