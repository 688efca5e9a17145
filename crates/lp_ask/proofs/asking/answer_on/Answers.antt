use Rattle.lp_lines.proofs.Looking.{looked_judged, text_judged}
use Rattle.lp_ask.proofs.asking.answer_on.Goals as goal

pub returns-in-Ok-clause-looked : goal.returns-in-Ok-clause-looked
returns-in-Ok-clause-looked g c = looked_judged c.answer.result c.in-Ok.ensures.looked (text_judged c.answer.result c.answer.ensures.refused)
