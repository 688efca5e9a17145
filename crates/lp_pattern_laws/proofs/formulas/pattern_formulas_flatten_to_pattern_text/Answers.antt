use Rattle.lp_pattern_laws.proofs.FormulaRuns.{clauses_flat, goals_flat}
use Rattle.lp_pattern_laws.proofs.formulas.pattern_formulas_flatten_to_pattern_text.Goals as goal

pub returns-clause-sentences : goal.returns-clause-sentences
returns-clause-sentences c = λ d n D cs t e h. clauses_flat d n D cs t e h

pub returns-clause-queries : goal.returns-clause-queries
returns-clause-queries c = λ d n q gs t e h. goals_flat d n q gs t e h
