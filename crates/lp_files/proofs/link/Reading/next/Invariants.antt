use Rattle.std.specs.Prelude.{length}
use Rattle.lp_files.specs.inner.Objects.{AreSkipped, AreThere, left_of}
use Rattle.lp_files.proofs.link.Reading.next.Given as goal

abbrev pub invariant-loop-user : goal.invariant-loop-user
invariant-loop-user l = record {
  skipped : AreSkipped l.self.objects.items (left_of l.self.objects.items l.fn.waiting.items) (left_of l.self.objects.items l.waiting.items);
  there : AreThere l.self.objects.items l.waiting.items;
}

abbrev pub decreases-loop-user : goal.decreases-loop-user
decreases-loop-user l = length l.waiting.items
