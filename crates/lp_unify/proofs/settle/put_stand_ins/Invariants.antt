use Rattle.std.specs.Prelude.{All}
use Rattle.lp_unify.specs.Frames.{Stays}
use Rattle.lp_unify.specs.Inside.{IsApart}
use Rattle.lp_unify.proofs.settle.put_stand_ins.Given as goal

abbrev pub invariant-loop-place : goal.invariant-loop-place
invariant-loop-place l = record {
  stays : Stays l.fn.store l.store;
  apart : All (IsApart l.store l.side.variable.0) l.ids.items;
}
