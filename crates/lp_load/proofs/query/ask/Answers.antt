use Rattle.lp_load.proofs.query.ask.Goals as goal

pub returns-in-Err-clause-cause : goal.returns-in-Err-clause-cause
returns-in-Err-clause-cause c = (c.in-Err.cause, c.in-Err.ensures.cause, c.query_refused.ensures.says)
