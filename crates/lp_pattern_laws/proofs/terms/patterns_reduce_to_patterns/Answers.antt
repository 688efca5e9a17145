use Rattle.lp_pattern_laws.proofs.Reduced.{pattern_reduces}
use Rattle.lp_pattern_laws.proofs.terms.patterns_reduce_to_patterns.Goals as goal

pub returns : goal.returns
returns c = λ t s r h. pattern_reduces r h
