use Rattle.std.proofs.Common.{◌≡◌, length}
use Rattle.std.specs.Prelude.{All}
use Rattle.lp_term.specs.Nodes.{Nodes}
use Rattle.lp_model.specs.Whole.{CanBeShown}
use Rattle.lp_query.proofs.running.values_at.Given as goal

abbrev pub invariant-loop-at : goal.invariant-loop-at
invariant-loop-at l = (length l.chosen.items ≡ l.at) × ((b : Nodes) → All (CanBeShown b) l.values → All (CanBeShown b) l.chosen.items)
