use Rattle.std.proofs.Common.{◌≡◌, ◌+◌, Bool, reverse}
use Rattle.std.specs.Prelude.{All}
use Rattle.lp_term.specs.Nodes.{Nodes, Extends}
use Rattle.lp_normal.specs.Within.{IsFrameIn, IsInnerIn}
use Rattle.lp_normal.specs.Making.{Flat, InnerComesTo}
use Rattle.lp_normal.specs.inner.Kinds.{is_in_goals, IsNested}
use Rattle.lp_normal.specs.inner.Met.{inner_met, frames_met}
use Rattle.lp_normal.specs.inner.Work.{inner_work, frames_work}
use Rattle.lp_normal.proofs.flattening.until_clause.Given as goal

abbrev pub invariant-moves : goal.invariant-moves
invariant-moves l = record {
  kept : Extends l.fn.bank l.bank;
  frames : All (IsFrameIn l.bank) l.frames.items;
  inner : IsInnerIn l.bank l.inner;
  comes : (whole : Flat) → InnerComesTo l.fn.bank l.fn.first l.fn.frames.items whole → InnerComesTo l.bank l.inner l.frames.items whole;
  kind : (k : Bool) → IsNested k (is_in_goals l.fn.first) (reverse l.fn.frames.items) → IsNested k (is_in_goals l.inner) (reverse l.frames.items);
  met : ((b : Nodes) → inner_met b l.fn.first + frames_met b l.fn.frames.items ≡ l.fn.count) → (b : Nodes) → inner_met b l.inner + frames_met b l.frames.items ≡ l.count;
  count : l.count ≡ l.fn.count;
  before : l.before ≡ l.fn.count;
}

abbrev pub decreases-moves : goal.decreases-moves
decreases-moves l = inner_work l.bank l.inner + frames_work l.bank l.frames.items
