use Rattle.std.proofs.Common.{◌≡◌, ◌<◌, ◌≤◌, ◌-◌, length, Some}
use Rattle.std.specs.Prelude.{All}
use Rattle.lp_calculus.specs.Convert.{leftmost_step, steps}
use Rattle.lp_term.specs.Nodes.{tree, Extends}
use Rattle.lp_term.specs.Frame.{IsFrame, standing}
use Rattle.lp_term.proofs.normal.contracted.Given as goal

abbrev pub invariant-contractions : goal.invariant-contractions
invariant-contractions l = record {
  kept : Extends l.fn.bank l.bank;
  some : 0 < length l.frames.items;
  frames : All (IsFrame l.bank) l.frames.items;
  left : l.left ≤ l.fn.limit;
  taken : steps leftmost_step (l.fn.limit - l.left) (tree l.fn.bank l.fn.term.0) ≡ Some (standing l.bank l.frames.items);
}

abbrev pub decreases-contractions : goal.decreases-contractions
decreases-contractions l = l.left
