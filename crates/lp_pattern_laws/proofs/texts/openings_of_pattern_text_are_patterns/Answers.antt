use Rattle.lp_pattern_laws.proofs.Opened as lemmas
use Rattle.lp_pattern_laws.proofs.texts.openings_of_pattern_text_are_patterns.Goals as goal

pub returns : goal.returns
returns c = λ l Γ t h v w σ o. lemmas.text_opens l Γ t h v w σ o
