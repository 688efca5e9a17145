use Rattle.std.proofs.Common.{◌≡◌, ℕ, ◌+◌, ◌*◌, nat_eq, reverse}
use Rattle.indexmap.specs.IndexMap.{get}
use Rattle.lp_calculus.specs.Types.{var}
use Rattle.lp_term.specs.Nodes.{type_tree}
use Rattle.lp_type_laws.specs.Solving.{solve}
use Rattle.lp_type_laws.proofs.Counts.{turns}
use Rattle.lp_type_unify.specs.Reading.{reads, read_pairs}
use Rattle.lp_type_unify.specs.Sharing.{State, read_tasks, joins}
use Rattle.lp_type_unify.proofs.shared.unify.Given as goal

abbrev pub invariant-tasks : goal.invariant-tasks
invariant-tasks l = record {
  state : State l.bank l.bindings.made (get nat_eq l.joined.older) l.todo.items;
  reaches : (n : ℕ) → (m : ℕ) × (solve m (read_pairs (type_tree l.bank) var (reverse l.fn.pairs)) var ≡ solve n (read_tasks (type_tree l.bank) (reads l.bank l.bindings.made) l.todo.items) (reads l.bank l.bindings.made));
}

abbrev pub decreases-tasks : goal.decreases-tasks
decreases-tasks l = 2 * turns (read_tasks (type_tree l.bank) (reads l.bank l.bindings.made) l.todo.items) (reads l.bank l.bindings.made) + joins l.todo.items
