use Rattle.std.proofs.Common.{◌≡◌, length}
use Rattle.lp_term.specs.Nodes.{Nodes, Extends}
use Rattle.lp_sig.specs.inner.Inside.{AreSame}
use Rattle.lp_sig.proofs.store.Types.all_inside.Given as goal

abbrev pub invariant-loop-id : goal.invariant-loop-id
invariant-loop-id l = record {
  kept : Extends l.fn.self.bank l.self.bank;
  same : (b : Nodes) → Extends b l.fn.self.bank → l.count ≡ length b.types → AreSame b l.self.bank l.yielded l.here.items;
}
