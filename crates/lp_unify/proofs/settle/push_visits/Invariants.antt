use Rattle.std.proofs.Common.{ℕ}
use Rattle.std.specs.Prelude.{All}
use Rattle.lp_store.specs.Contents.{Contents}
use Rattle.lp_unify.specs.Inside.{IsTaskFor}
use Rattle.lp_unify.proofs.settle.push_visits.Given as goal

abbrev pub invariant-loop-done : goal.invariant-loop-done
invariant-loop-done l = (s : Contents) → (x : ℕ) → All (IsTaskFor s x) l.initial.tasks.items → All (IsTaskFor s x) l.tasks.items
