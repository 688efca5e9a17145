use Rattle.std.specs.Prelude.{◌≤◌, length}
use Rattle.lp_machine.proofs.heap.sizes.gives_atoms.Given as goal

abbrev pub invariant-entries : goal.invariant-entries
invariant-entries l = l.at.0 ≤ length l.store.envs
