use Rattle.std.proofs.Common.{ℕ, ◌<◌, length}
use Rattle.std.specs.Prelude.{All}
use Rattle.lp_unify.specs.Frames.{Stays}
use Rattle.lp_unify.specs.Inside.{IsApart}
use Rattle.lp_unify.proofs.prune.push_places.Given as goal

abbrev pub invariant-loop-place : goal.invariant-loop-place
invariant-loop-place l = record {
  stays : Stays l.fn.store l.store;
  apart : (x : ℕ) → x < length l.fn.store.cells → All (IsApart l.fn.store x) l.initial.arguments.items → All (IsApart l.store x) l.arguments.items;
}
