use Rattle.std.proofs.Common.{◌≡◌, ◌<◌, ◌≤◌, length, take}
use Rattle.lp_syntax.specs.Machine.{wrap}
use Rattle.lp_syntax.specs.Nodes.{trees, at, Grows}
use Rattle.lp_syntax.specs.Views.{done_of}
use Rattle.lp_syntax.proofs.close.wrap.Given as goal

abbrev pub invariant-over : goal.invariant-over
invariant-over l = record {
  grows : Grows l.fn.nodes.items l.nodes.items;
  t : l.t < length l.nodes.items;
  n : l.n ≤ length l.done;
  same : wrap (done_of (trees l.nodes.items) (take l.n l.done)) (at (trees l.nodes.items) l.t) ≡ wrap (done_of (trees l.fn.nodes.items) l.done) (at (trees l.fn.nodes.items) l.last);
}

abbrev pub decreases-over : goal.decreases-over
decreases-over l = l.n
