use Rattle.std.specs.HashMap.{values}
use Rattle.lp_calculus.specs.Term.{apply}
use Rattle.lp_term.specs.Nodes.{tree}
use Rattle.lp_term.specs.Frame.{in_order}
use Rattle.lp_term.specs.Absent.{Leads, total}
use Rattle.lp_term.proofs.absent.is_absent.Given as goal

abbrev pub invariant-places : goal.invariant-places
invariant-places l = Leads l.bank (apply (tree l.bank l.fn.head.0) (in_order l.bank l.fn.args)) (values l.marks) l.left.items

abbrev pub decreases-places : goal.decreases-places
decreases-places l = total l.bank l.left.items
