use Rattle.lp_term.specs.Nodes.{Extends}
use Rattle.lp_prove.proofs.closing.closing_of.Given as goal

abbrev pub invariant-terms : goal.invariant-terms
invariant-terms l = Extends l.fn.to l.to
