use Rattle.std.proofs.Common.{◌≡◌, ◌≤◌, ◌<◌, ℕ, length, Some}
use Rattle.lp_calculus.specs.Fill.{Within}
use Rattle.lp_term.specs.Nodes.{Extends}
use Rattle.lp_model.specs.Pair.{Closing}
use Rattle.lp_model.specs.Scan.{Pruned, prune}
use Rattle.lp_pattern.specs.Growing.{Grows}
use Rattle.lp_pattern.specs.Pruning.{IsPruning}
use Rattle.lp_pattern.specs.Putting.{Known}
use Rattle.lp_pattern.specs.Reading.{side_of}
use Rattle.lp_pattern.specs.Turning.{IsOpenReading}
use Rattle.lp_pattern.specs.Under.{under}
use Rattle.lp_pattern.proofs.prune.prune.Given as goal

abbrev pub invariant-parts : goal.invariant-parts
invariant-parts l = record {
  kept : Extends l.fn.bank l.bank;
  more : l.fn.next ≤ l.next;
  grown : Grows l.fn.bindings l.bindings;
  prunes : l.side.id < l.fn.next → l.fn.term.0 < length l.fn.bank.terms → (c : Closing) → IsOpenReading l.fn.bank l.fn.bindings l.fn.next c → (levels : ℕ → ℕ) →
      Within (Known levels l.fn.next) 0 (under l.fn.bank c l.fn.term) → (n : ℕ) → (r : Pruned) → prune n (side_of l.side) l.fn.next (under l.fn.bank c l.fn.term) ≡ Some r →
      IsPruning (side_of l.side) (record { closing = c; levels = levels; next = l.fn.next; bindings = l.fn.bindings }) n l.bank l.bindings l.next l.fn.term l.left.items r;
}
