use Rattle.lp_search_laws.proofs.Refuted as lemmas
use Rattle.lp_search_laws.proofs.negation.refuted_goals_have_proved_negations.Goals as goal

pub returns : goal.returns
returns c = λ d F P fl E V t b G gs s Ds css a w n looks j rows k p ns f r. lemmas.negation_proved d F P fl E V t b G gs s Ds css a w n looks j rows k p ns f r
