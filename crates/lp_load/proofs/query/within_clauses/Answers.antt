use Rattle.lp_load.proofs.Refusing.{goals_are}
use Rattle.lp_load.proofs.query.within_clauses.Goals as goal

pub returns-in-Ok-clause-goals : goal.returns-in-Ok-clause-goals
returns-in-Ok-clause-goals c = λ lt. goals_are c.args.bank.now c.query_body.new.bank c.args.typed.now c.in-Ok.goals.items lt c.query_body.ensures.kept c.in-Ok.ensures.flattened

pub returns-in-Err-clause-cause : goal.returns-in-Err-clause-cause
returns-in-Err-clause-cause c = c.of_flattening.ensures.cause _ c.in-Err.ensures.limit
