use Rattle.std.proofs.Common.{◌≡◌, ◌≤◌, ◌+◌, ◌-◌}
use Rattle.std.specs.Prelude.{All}
use Rattle.lp_calculus.specs.Term.{Term}
use Rattle.lp_calculus.specs.Convert.{leftmost_step}
use Rattle.lp_store.specs.Reading.{Reads}
use Rattle.lp_store.specs.Change.{KeepsMarks}
use Rattle.lp_term.specs.Nodes.{Extends}
use Rattle.lp_susp.specs.Kept.{Reduced}
use Rattle.lp_susp.specs.Counted.{Counts}
use Rattle.lp_susp.specs.Frames.{Plugged, FrameStands, StateStands, StateOf, nodes_around, nodes_built}
use Rattle.lp_susp.proofs.reading.read_back.Given as goal

abbrev pub invariant-loop-step : goal.invariant-loop-step
invariant-loop-step l = record {
  stands : StateStands l.store l.bank l.state;
  frames : All (FrameStands l.store l.bank) l.frames.items;
  kept : Extends l.fn.bank l.bank;
  reduced : Reduced l.fn.store l.store;
  marks : KeepsMarks l.fn.store l.store;
  left : l.budget.left ≤ l.limit;
  limit : l.budget.limit ≡ l.limit;
  size : l.room.limit ≡ l.limit;
  counted : nodes_built l.bank l.state + nodes_around l.bank l.frames.items + l.room.left ≡ l.limit;
  reads : (t : Term) → Reads l.fn.store l.fn.cell.0 t →
      (x : Term) × (w : Term) × StateOf l.store l.bank l.state x × Plugged l.store l.bank l.frames.items x w × Counts leftmost_step (l.limit - l.budget.left) t w;
}
