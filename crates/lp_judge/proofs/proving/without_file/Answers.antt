use Rattle.lp_lines.proofs.Looking.{text_is_judged}
use Rattle.lp_judge.proofs.proving.without_file.Goals as goal

pub returns-in-Long-clause-judged : goal.returns-in-Long-clause-judged
returns-in-Long-clause-judged c = text_is_judged c.limited.result c.limited.ensures.refusal
