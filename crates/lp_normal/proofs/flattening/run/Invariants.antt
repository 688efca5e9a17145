use Rattle.std.proofs.Common.{◌≡◌, ◌+◌, ◌≤◌, ◌-◌, suc, [], reverse}
use Rattle.std.specs.Prelude.{All}
use Rattle.lp_base.specs.declared.limits.TheConstants.{MAX_CLAUSES}
use Rattle.lp_term.specs.Nodes.{Nodes, Extends}
use Rattle.lp_normal.specs.Within.{IsFrameIn, IsInnerIn}
use Rattle.lp_normal.specs.Making.{Flat, InnerComesTo}
use Rattle.lp_normal.specs.inner.Kinds.{is_in_goals, IsNested}
use Rattle.lp_normal.specs.inner.Met.{inner_met, frames_met}
use Rattle.lp_normal.proofs.flattening.run.Given as goal

abbrev pub invariant-clauses : goal.invariant-clauses
invariant-clauses l = record {
  kept : Extends l.fn.bank l.bank;
  frames : All (IsFrameIn l.bank) l.frames.items;
  inner : IsInnerIn l.bank l.inner;
  comes : (whole : Flat) → InnerComesTo l.fn.bank l.fn.first [] whole → InnerComesTo l.bank l.inner l.frames.items whole;
  kind : IsNested (is_in_goals l.fn.first) (is_in_goals l.inner) (reverse l.frames.items);
  met : (b : Nodes) → inner_met b l.inner + frames_met b l.frames.items ≡ l.count;
  few : l.count ≤ MAX_CLAUSES;
}

abbrev pub decreases-clauses : goal.decreases-clauses
decreases-clauses l = suc MAX_CLAUSES - l.count
