use Rattle.lp_pattern_laws.proofs.Renumbered.{sentence_renumbered, sentence_within}
use Rattle.lp_pattern_laws.proofs.formulas.renumbered_pattern_text_stays_so.Goals as goal

pub returns-clause-text : goal.returns-clause-text
returns-clause-text c = λ m h D p. sentence_renumbered m h D p

pub returns-clause-within : goal.returns-clause-within
returns-clause-within c = λ m h s D w. sentence_within m h s D w
