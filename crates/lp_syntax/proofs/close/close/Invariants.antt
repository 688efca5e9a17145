use Rattle.std.proofs.Common.{◌≡◌, ◌<◌, length}
use Rattle.lp_syntax.specs.Machine.{close}
use Rattle.lp_syntax.specs.Nodes.{trees, at, Grows}
use Rattle.lp_syntax.specs.Views.{frames_of, EachBelow}
use Rattle.lp_syntax.proofs.close.close.Given as goal

abbrev pub invariant-over : goal.invariant-over
invariant-over l = record {
  grows : Grows l.fn.nodes.items l.nodes.items;
  x : l.x < length l.nodes.items;
  below : EachBelow (length l.nodes.items) l.frames.items;
  same : close (frames_of (trees l.nodes.items) l.frames.items) (at (trees l.nodes.items) l.x) l.c ≡ close (frames_of (trees l.fn.nodes.items) l.fn.frames.items) (at (trees l.fn.nodes.items) l.first) l.c;
}

abbrev pub decreases-over : goal.decreases-over
decreases-over l = length l.frames.items
