use Rattle.lp_solve.proofs.Naming.{IsLeft}
use Rattle.lp_solve.proofs.shown.glossary_of.Given as goal

abbrev pub invariant-constants : goal.invariant-constants
invariant-constants l = IsLeft l.built.signature l.constants l.at l.number l.entries.items
