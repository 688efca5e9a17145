use Rattle.std.proofs.Common.{sym, subst}
use Rattle.lp_machine.specs.Kept.{AreMarks}
use Rattle.lp_machine.proofs.Marks.{oldest_marks}
use Rattle.lp_machine.proofs.heap.Heap.cut.Goals as goal

pub invariant_of-self : goal.invariant_of-self
invariant_of-self c = subst (AreMarks c.self.inside.store) (sym c.cut.ensures.kept) (oldest_marks c.self.inside.store c.self.inside.choices c.args.height c.self.invariant)
