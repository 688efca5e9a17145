use Rattle.std.proofs.Common.{◌≡◌, length}
use Rattle.lp_term.specs.Nodes.{Extends}
use Rattle.lp_sig.specs.Ordering.{AreNewNames}
use Rattle.lp_sig.proofs.bodies.Bodies.new_names.Given as goal

abbrev pub invariant-loop-number : goal.invariant-loop-number
invariant-loop-number l = record {
  kept : Extends l.fn.self.types.bank l.self.types.bank;
  bodies : l.self.bodies ≡ l.fn.self.bodies;
  count : length l.names.items ≡ l.number;
  names : AreNewNames l.self.types.bank l.names.items l.found;
}
