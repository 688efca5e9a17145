use Rattle.lp_files.specs.inner.Objects.{AreSkipped, names_from}
use Rattle.lp_files.proofs.link.Reading.unread.Given as goal

abbrev pub invariant-loop-at : goal.invariant-loop-at
invariant-loop-at l = AreSkipped l.self.objects.items (names_from l.self.objects.items l.user l.place) (names_from l.self.objects.items l.user l.at)
