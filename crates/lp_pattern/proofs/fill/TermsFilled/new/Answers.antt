use Rattle.lp_pattern.proofs.FilledTerms.{none_filled}
use Rattle.lp_pattern.proofs.fill.TermsFilled.new.Goals as goal

pub returns : goal.returns
returns c = λ b d. record { terms = λ i j g. none_filled b d c.new.result i j c.new.ensures.empty g; types = c.new-2.ensures b d.types }
