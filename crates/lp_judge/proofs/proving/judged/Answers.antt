use Rattle.lp_judge.proofs.proving.judged.Goals as goal

pub returns-in-Accepted : goal.returns-in-Accepted
returns-in-Accepted c held name text = λ asked. c.in_ok-verdict.ensures held name text asked c.in-Accepted.is
