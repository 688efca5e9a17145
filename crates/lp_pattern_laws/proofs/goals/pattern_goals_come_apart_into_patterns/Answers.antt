use Rattle.lp_pattern_laws.proofs.Parted as lemmas
use Rattle.lp_pattern_laws.proofs.goals.pattern_goals_come_apart_into_patterns.Goals as goal

pub returns-clause-forms : goal.returns-clause-forms
returns-clause-forms c = λ t k p n. lemmas.pattern_form t k p n

pub returns-clause-arguments : goal.returns-clause-arguments
returns-clause-arguments c = λ t p. lemmas.pattern_arguments t p
