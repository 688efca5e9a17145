use Rattle.std.proofs.Common.{ℕ, ◌≡◌, ◌<◌, ◌≤◌, ◌-◌, length}
use Rattle.lp_calculus.specs.Term.{Term}
use Rattle.lp_store.specs.Reading.{Reads}
use Rattle.lp_store.specs.Change.{KeepsMarks}
use Rattle.lp_susp.specs.Kept.{Reduced}
use Rattle.lp_susp.specs.Route.{Under, Spine}
use Rattle.lp_susp.specs.Counted.{Works}
use Rattle.lp_susp.proofs.reducing.reduce.Given as goal

abbrev pub invariant-loop-step : goal.invariant-loop-step
invariant-loop-step l = record {
  within : l.at.0 < length l.store.cells;
  reduced : Reduced l.fn.store l.store;
  marks : KeepsMarks l.fn.store l.store;
  left : l.budget.left ≤ l.fn.budget.left;
  limit : l.budget.limit ≡ l.fn.budget.limit;
  route : (d : ℕ) × (top : ℕ) × Under l.store l.fn.cell.0 d top × Spine l.store top l.spine.items l.at.0;
  works : (t : Term) → Reads l.fn.store l.fn.cell.0 t → (w : Term) × Reads l.store l.fn.cell.0 w × Works (l.fn.budget.left - l.budget.left) t w;
}
