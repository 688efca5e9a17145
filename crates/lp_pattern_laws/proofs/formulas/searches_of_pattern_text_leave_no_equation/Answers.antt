use Rattle.lp_pattern_laws.proofs.FormulaRuns.{formulas_no_pairs}
use Rattle.lp_pattern_laws.proofs.formulas.searches_of_pattern_text_leave_no_equation.Goals as goal

pub returns : goal.returns
returns c = λ d std l F P s x h q gs t e p n j m steps answers. formulas_no_pairs d std l F P s x h q gs t e p n j m steps answers
