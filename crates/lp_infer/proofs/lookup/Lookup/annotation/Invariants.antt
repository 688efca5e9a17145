use Rattle.std.proofs.Common.{◌≡◌, length}
use Rattle.lp_infer.specs.Firsts.{AreFirsts}
use Rattle.lp_infer.specs.Visits.{NotesGrow}
use Rattle.lp_infer.specs.Noted.{AreNoted}
use Rattle.lp_infer.proofs.lookup.Lookup.annotation.Given as goal

abbrev pub invariant-loop-node : goal.invariant-loop-node
invariant-loop-node l = record {
  count : length l.done.items ≡ l.node-index;
  grows : AreFirsts l.source l.fn.self.notes → NotesGrow l.source l.fn.self l.self;
  noted : AreFirsts l.source l.fn.self.notes → AreNoted l.signature l.source l.raw.nodes.items l.self l.done.items;
}
