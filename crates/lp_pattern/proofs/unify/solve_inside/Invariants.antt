use Rattle.std.proofs.Common.{◌≡◌, ◌≤◌, ◌+◌, ◌*◌, if◌then◌else◌, ℕ, List, Some, reverse, length}
use Rattle.std.specs.Prelude.{All}
use Rattle.lp_term.specs.Nodes.{Extends}
use Rattle.lp_model.specs.Pair.{Closing, Pair}
use Rattle.lp_model.specs.Unify.{Unified, solve}
use Rattle.lp_pattern.specs.Growing.{Grows, IsPairOf}
use Rattle.lp_pattern.specs.Reading.{type_pairs_of}
use Rattle.lp_pattern.specs.Turning.{IsOpenReading, AreKnownPairs, ArePairsFor}
use Rattle.lp_pattern.specs.Turns.{LeadsTo}
use Rattle.lp_pattern.proofs.unify.solve_inside.Given as goal

abbrev pub invariant-rounds : goal.invariant-rounds
invariant-rounds l = record {
  kept : Extends l.fn.bank l.bank;
  more : l.fn.next ≤ l.next;
  grown : Grows l.fn.bindings l.bindings;
  todo : All (IsPairOf (length l.bank.terms)) l.todo.items;
  waiting : All (IsPairOf (length l.bank.terms)) l.waiting.items;
  comes : (c : Closing) → IsOpenReading l.fn.bank l.fn.bindings l.fn.next c → (levels : ℕ → ℕ) → (ps ds : List Pair) → ArePairsFor l.fn.bank c l.pairs ps → ArePairsFor l.fn.bank c l.delayed ds → AreKnownPairs levels l.fn.next ps → AreKnownPairs levels l.fn.next ds → (n : ℕ) (u : Unified) →
      solve n l.limit (type_pairs_of l.fn.bank c.types l.types) ps ds l.fn.next ≡ Some u → LeadsTo l.limit (record { closing = c; levels = levels; next = l.fn.next }) n u l.bank l.bindings l.next l.units (reverse l.todo.items) l.waiting.items l.has_types;
}

abbrev pub decreases-rounds : goal.decreases-rounds
decreases-rounds l = l.units * 2 + (if l.has_types then 1 else 0)
