use Rattle.std.proofs.Common.{◌≤◌, ℕ, length, false}
use Rattle.std.specs.Prelude.{All}
use Rattle.lp_term.specs.Nodes.{Extends}
use Rattle.lp_model.specs.Pair.{Closing}
use Rattle.lp_model.specs.Scan.{scan}
use Rattle.lp_pattern.specs.Reading.{side_of}
use Rattle.lp_pattern.specs.Stripping.{IsShut}
use Rattle.lp_pattern.specs.Under.{IsReading, under}
use Rattle.lp_pattern.specs.Visiting.{IsVisitOf, IsRestOf, scan_parts, parts_of}
use Rattle.lp_pattern.specs.inner.Falling.{walk_left, depth_on_top}
use Rattle.lp_pattern.proofs.scan.scan.Given as goal

abbrev pub invariant-parts : goal.invariant-parts
invariant-parts l = record {
  fewer : l.units ≤ l.fn.units;
  kept : Extends l.fn.bank l.bank;
  left : All (IsVisitOf (length l.bank.terms) l.side.pair) l.left.items;
  rest : (c : Closing) → IsReading l.fn.bank l.bindings c → IsShut c → (n : ℕ) →
      IsRestOf (side_of l.side) l.fn.units l.units (record { is_delayed = false; has_misfit = false }) l.found (scan n (side_of l.side) false l.side.pair (under l.fn.bank c l.fn.term)) (scan_parts n n (side_of l.side) (parts_of l.bank c l.left.items));
}

abbrev pub decreases-parts : goal.decreases-parts
decreases-parts l = walk_left l.units (depth_on_top l.left.items)
