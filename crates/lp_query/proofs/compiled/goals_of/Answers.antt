use Rattle.lp_query.proofs.compiled.goals_of.Goals as goal

pub returns-clause-typed : goal.returns-clause-typed
returns-clause-typed c = (_, c.in_ok-typed.ensures.typed.principal)
