use Rattle.std.proofs.Common.{◌≡◌, ◌+◌, length, reverse}
use Rattle.std.specs.Prelude.{All}
use Rattle.lp_term.specs.Nodes.{Nodes}
use Rattle.lp_model.specs.Flat.{Goals}
use Rattle.lp_model.specs.Flattened.{goals_of}
use Rattle.lp_normal.specs.Counted.{count_in_goals}
use Rattle.lp_normal.specs.inner.Met.{list_met, opened_met}
use Rattle.lp_normal.specs.Within.{AreGoalsIn, IsOpenedIn, IsGoalListIn}
use Rattle.lp_normal.specs.Making.{Reads, Closes}
use Rattle.lp_normal.proofs.goals.GoalList.close.Given as goal

abbrev pub invariant-sigmas : goal.invariant-sigmas
invariant-sigmas l = record {
  within : (b : Nodes) → IsGoalListIn b l.fn.self → All (IsOpenedIn b) l.opened.items × AreGoalsIn b l.goals.items;
  closes : (b : Nodes) (gs out : Goals) → IsGoalListIn b l.fn.self → Reads b l.fn.self.done.items gs → Closes b (reverse l.fn.self.opened.items) gs out → (now : Goals) × Reads b l.goals.items now × Closes b (reverse l.opened.items) now out;
  met : (b : Nodes) → opened_met b l.opened.items + count_in_goals (goals_of b l.goals.items) ≡ list_met b l.fn.self;
}

abbrev pub decreases-sigmas : goal.decreases-sigmas
decreases-sigmas l = length l.opened.items
