use Rattle.std.proofs.Common.{◌≡◌, ℕ, ◌+◌, length}
use Rattle.std.specs.Prelude.{All}
use Rattle.lp_term.specs.Nodes.{type_tree}
use Rattle.lp_type_laws.specs.Units.{solve_within}
use Rattle.lp_type_laws.proofs.Within.{add_used}
use Rattle.lp_type_unify.specs.Reading.{reads, AreKept, IsPair, read_pairs}
use Rattle.lp_type_unify.proofs.counted.unify_within.Given as goal

abbrev pub invariant-pairs : goal.invariant-pairs
invariant-pairs l = record {
  kept : AreKept l.bank l.bindings.made;
  todos : All (IsPair (length l.bank.types)) l.todo.items;
  reaches : (used : ℕ) × (l.limit ≡ used + l.left) ×
      (solve_within l.limit (read_pairs (type_tree l.bank) (reads l.bank l.initial.bindings.made) l.fn.pairs) (reads l.bank l.initial.bindings.made) ≡
      add_used used (solve_within l.left (read_pairs (type_tree l.bank) (reads l.bank l.bindings.made) l.todo.items) (reads l.bank l.bindings.made)));
}

abbrev pub decreases-pairs : goal.decreases-pairs
decreases-pairs l = l.left
