use Rattle.lp_judge.proofs.proving.outcome_of.Goals as goal

pub returns-in-Err-clause-outcome : goal.returns-in-Err-clause-outcome
returns-in-Err-clause-outcome c = c.without_file.ensures.outcome c.args.claim.name.now

pub returns-in-Ok-clause-certified : goal.returns-in-Ok-clause-certified
returns-in-Ok-clause-certified c held name text = λ asked. c.in-Ok.ensures.proofs held name text asked

pub returns-in-Err-clause-certified : goal.returns-in-Err-clause-certified
returns-in-Err-clause-certified c held name text = λ asked. c.without_file.ensures.certified held name text

pub returns-in-Ok-clause-counted : goal.returns-in-Ok-clause-counted
returns-in-Ok-clause-counted c held text = λ asked. c.in-Ok.ensures.counted held text asked

pub returns-in-Err-clause-counted : goal.returns-in-Err-clause-counted
returns-in-Err-clause-counted c held text = λ asked. c.without_file.ensures.counted held c.args.claim.name.now text
