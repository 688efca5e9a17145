use Rattle.std.proofs.Common.{◌≡◌, ℕ, ◌<◌, length, reverse, Some}
use Rattle.lp_calculus.specs.Term.{Term}
use Rattle.lp_term.specs.Nodes.{Extends}
use Rattle.lp_model.specs.Pair.{Closing}
use Rattle.lp_model.specs.Scan.{settle}
use Rattle.lp_pattern.specs.inner.Falling.{tasks_left}
use Rattle.lp_pattern.specs.Settling.{AreEnough, IsLeft, indexed_in}
use Rattle.lp_pattern.specs.Stripping.{IsShut}
use Rattle.lp_pattern.specs.Under.{IsReading, under}
use Rattle.lp_pattern.proofs.settle.settled.Given as goal

abbrev pub invariant-tasks : goal.invariant-tasks
invariant-tasks l = record {
  kept : Extends l.fn.bank l.bank;
  enough : AreEnough (reverse l.work.tasks.items) (length l.work.made.items);
  leads : l.fn.term.0 < length l.fn.bank.terms → (c : Closing) → IsReading l.fn.bank l.bindings c → IsShut c → (n : ℕ) (t : Term) → settle n l.side.pair (under l.fn.bank c l.fn.term) ≡ Some t →
      IsLeft n l.bank c l.side.eigens.items l.work.tasks.items l.work.made.items (indexed_in l.side.eigens.items l.side.pair 0 t);
}

abbrev pub decreases-tasks : goal.decreases-tasks
decreases-tasks l = tasks_left l.work.tasks.items
