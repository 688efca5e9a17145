use Rattle.lp_term.specs.Nodes.{Extends}
use Rattle.lp_prove.proofs.closing.closed_types.Given as goal

abbrev pub invariant-types : goal.invariant-types
invariant-types l = Extends l.fn.to l.to
