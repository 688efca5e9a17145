use Rattle.std.proofs.Common.{reverse}
use Rattle.lp_term.specs.Nodes.{Extends}
use Rattle.lp_sig.specs.inner.Tasks.{HasCopy, AllGo}
use Rattle.lp_sig.specs.Copying.{left, AreInRange, AreCopies}
use Rattle.lp_sig.proofs.store.Types.copied.Given as goal

abbrev pub invariant-tasks : goal.invariant-tasks
invariant-tasks l = record {
  kept : Extends l.fn.self.bank l.self.bank;
  in_range : AreInRange l.fn.self.bank l.work.items;
  goes : AllGo l.fn.self.bank l.body.0 (HasCopy l.made) (reverse l.work.items);
  copies : AreCopies l.fn.self.bank l.args l.self.bank l.made;
}

abbrev pub decreases-tasks : goal.decreases-tasks
decreases-tasks l = left l.fn.self.bank l.work.items
