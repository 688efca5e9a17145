use Rattle.std.proofs.Common.{◌≡◌, ◌<◌, length}
use Rattle.lp_calculus.specs.Types.{instance}
use Rattle.lp_term.specs.Nodes.{type_tree}
use Rattle.lp_type_unify.specs.Reading.{reads}
use Rattle.lp_type_unify.specs.Looking.{rank}
use Rattle.lp_type_unify.proofs.bindings.Bindings.resolve.Given as goal

abbrev pub invariant-bound : goal.invariant-bound
invariant-bound l = record {
  same : instance (reads l.bank l.self.made) (type_tree l.bank l.top.0) ≡ instance (reads l.bank l.self.made) (type_tree l.bank l.fn.id.0);
  known : l.top.0 < length l.bank.types;
}

abbrev pub decreases-bound : goal.decreases-bound
decreases-bound l = rank (type_tree l.bank l.top.0)
