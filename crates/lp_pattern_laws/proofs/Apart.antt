-- Both parts of an application that is a pattern term are pattern terms.
use Rattle.lp_calculus.specs.Term.{Term, app}
use Rattle.lp_pattern_laws.specs.Patterns.{IsPatternTerm, rigid, on_name}
use Rattle.lp_pattern_laws.proofs.Renamed.{names_pattern}

pub pattern_apart : {t u : Term} → IsPatternTerm (app t u) → IsPatternTerm t × IsPatternTerm u
pattern_apart (rigid r p q) = (p, q)
pattern_apart (on_name p q new) = (p, names_pattern q)
