use Rattle.std.proofs.Common.{◌≡◌, ◌<◌, length}
use Rattle.std.specs.Prelude.{All}
use Rattle.lp_term.specs.Nodes.{Extends}
use Rattle.lp_term.specs.Frame.{IsFrame, standing, load}
use Rattle.lp_term.proofs.normal.go_on.Given as goal

abbrev pub invariant-moves : goal.invariant-moves
invariant-moves l = record {
  kept : Extends l.fn.bank l.bank;
  some : 0 < length l.frames.items;
  frames : All (IsFrame l.bank) l.frames.items;
  left : l.left ≡ l.fn.left;
  same : standing l.fn.bank l.fn.frames.items ≡ standing l.bank l.frames.items;
}

abbrev pub decreases-moves : goal.decreases-moves
decreases-moves l = load l.bank l.frames.items
