use Rattle.std.proofs.Common.{reverse}
use Rattle.lp_term.specs.Nodes.{type_tree}
use Rattle.lp_sig.specs.Copying.{total}
use Rattle.lp_sig.specs.Schemes.{first_variables, IsOnWay}
use Rattle.lp_sig.proofs.store.Types.variables.Given as goal

abbrev pub invariant-types : goal.invariant-types
invariant-types l = IsOnWay l.self.bank l.found.keys l.seen.keys (reverse l.work.items) (first_variables (type_tree l.self.bank l.fn.body.0))

abbrev pub decreases-types : goal.decreases-types
decreases-types l = total l.self.bank l.work.items
