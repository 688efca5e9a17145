use Rattle.std.proofs.Common.{◌≡◌, ◌≤◌, ℕ, suc, Some, length, drop, None}
use Rattle.std.specs.Prelude.{nat_eq, slice_get}
use Rattle.lp_plain.specs.declared.table.Span.{Span}
use Rattle.std.specs.HashMap.{get}
use Rattle.lp_plain.specs.Candidates.{IsLinked, numbers}
use Rattle.lp_plain.proofs.candidates.index_of.Given as goal

abbrev pub invariant-spans : goal.invariant-spans
invariant-spans l = record {
  within : l.left ≤ length l.program.items;
  count : length l.rules.items ≡ length l.fn.rules.items;
  before : (i : ℕ) (s : Span) → suc i ≡ l.left → slice_get l.program.items i ≡ Some s → s.to ≤ l.first;
  low : l.first ≤ length l.fn.rules.items;
  linked : IsLinked l.bank l.fn.rules.items l.rules.items (λ c. None) (λ c. get nat_eq l.index c) (numbers (drop l.left l.program.items)) (length l.fn.rules.items) l.first;
}

abbrev pub decreases-spans : goal.decreases-spans
decreases-spans l = l.left
