use Rattle.std.proofs.Common.{ℕ, ◌<◌, length}
use Rattle.lp_unify.specs.Frames.{Stays}
use Rattle.lp_unify.specs.Inside.{IsApart}
use Rattle.lp_unify.proofs.binding.put_abstractions.Given as goal

abbrev pub invariant-loop : goal.invariant-loop
invariant-loop l = record {
  stays : Stays l.fn.store l.store;
  apart : (x : ℕ) → x < length l.fn.store.cells → IsApart l.fn.store x l.fn.body → IsApart l.store x l.made;
}
