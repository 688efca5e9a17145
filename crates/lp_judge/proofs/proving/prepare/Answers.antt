use Rattle.lp_lines.proofs.Looking.{looked_judged}
use Rattle.lp_judge.proofs.Provings.{nowhere_placed}
use Rattle.lp_judge.proofs.proving.prepare.Goals as goal

pub returns-in-Ok-clause-looked : goal.returns-in-Ok-clause-looked
returns-in-Ok-clause-looked g c = looked_judged c.outcome_of.result c.in-Ok.ensures.looked c.outcome_of.ensures.judged

pub returns-in-Ok-clause-placed : goal.returns-in-Ok-clause-placed
returns-in-Ok-clause-placed g c = nowhere_placed _ c.outcome_of.result c.outcome_of.ensures.nowhere

pub returns-in-Ok-clause-certified : goal.returns-in-Ok-clause-certified
returns-in-Ok-clause-certified g c = c.outcome_of.ensures.certified _ _ _ c.in-Ok.ensures.asked

pub returns-in-Ok-clause-counted : goal.returns-in-Ok-clause-counted
returns-in-Ok-clause-counted g c = c.outcome_of.ensures.counted _ _ c.in-Ok.ensures.asked
