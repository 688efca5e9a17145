use Rattle.std.proofs.Common.{◌+◌, ◌*◌, ◌-◌, ◌≤◌, All, reverse}
use Rattle.lp_calculus.specs.Term.{Term}
use Rattle.lp_store.specs.Reading.{Reads}
use Rattle.lp_store.specs.Change.{KeepsMarks}
use Rattle.lp_susp.specs.Kept.{Reduced}
use Rattle.lp_arith.specs.Stands.{StandsAround, StandsState}
use Rattle.lp_arith.specs.inner.Frames.{IsAt, weights}
use Rattle.lp_arith.proofs.evaluation.evaluate.Given as goal

abbrev pub invariant-parts : goal.invariant-parts
invariant-parts l = record {
  around : All (StandsAround l.store) l.around.items;
  state : StandsState l.store l.state;
  left : l.left ≤ 1000000;
  reduced : Reduced l.fn.store l.store;
  marks : KeepsMarks l.fn.store l.store;
  at : (t : Term) → Reads l.fn.store l.fn.cell.0 t → IsAt l.store (reverse l.around.items) l.state (1000000 - l.left) t;
}

abbrev pub decreases-parts : goal.decreases-parts
decreases-parts l = 4 * l.left + weights (reverse l.around.items)
