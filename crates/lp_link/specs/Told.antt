-- What becomes of the names of a copy.
use Rattle.lp_term.specs.Mapped.{Told}
use Rattle.lp_term.specs.declared.becomes.TypeChange.TheVariants.{Var}
use Rattle.lp_term.specs.declared.becomes.TermChange.TheVariants.{Stays}
use Rattle.lp_link.specs.Numbers.{renumbered}
use Rattle.lp_link.specs.declared.names.Names.{Names}

abbrev pub told_by : Names → Told
told_by n = record { kinds = renumbered 8 n.kinds.items; constants = renumbered 32 n.constants.items; types = λ v. Var v; terms = λ v. Stays }
