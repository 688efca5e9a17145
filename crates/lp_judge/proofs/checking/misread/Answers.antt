use Rattle.lp_lines.proofs.Looking.{text_is_judged}
use Rattle.lp_judge.proofs.checking.misread.Goals as goal

pub returns-in-Limit-clause-judged : goal.returns-in-Limit-clause-judged
returns-in-Limit-clause-judged c = text_is_judged c.limited.result c.limited.ensures.refusal
