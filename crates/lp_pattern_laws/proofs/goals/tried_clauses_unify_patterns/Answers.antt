use Rattle.lp_pattern_laws.proofs.Tried as lemmas
use Rattle.lp_pattern_laws.proofs.goals.tried_clauses_unify_patterns.Goals as goal

pub returns-clause-variables : goal.returns-clause-variables
returns-clause-variables c = λ l vs θ h t next level w p. lemmas.values_are l vs θ h t next level w p

pub returns-clause-pairs : goal.returns-clause-pairs
returns-clause-pairs c = λ l vs θ h t next level w p. lemmas.pairs_are l vs θ h t next level w p
