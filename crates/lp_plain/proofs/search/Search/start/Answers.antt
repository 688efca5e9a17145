use Rattle.std.proofs.Common.{ap, refl}
use Rattle.lp_plain.specs.Held.{constants_of, steps_of}
use Rattle.lp_plain.specs.ProgramClauses.{arity_in}
use Rattle.lp_plain.proofs.Begun.{begun_between, clauses_there, goals_written, no_variable, program_there}
use Rattle.lp_plain.proofs.search.Search.start.Goals as goal

pub returns-clause-begins : goal.returns-clause-begins
returns-clause-begins c = λ d P gs h n.
    let p = c.args.program in
    let q = c.args.query in
    let e = c.in_ok-machine.ensures in
    let s = c.in_ok-machine.field-0 in
    begun_between d p q P gs h _ c.args.steps c.args.answers n refl refl refl e.variables
    (e.begun h.query_within h.depth d gs h.query_flattened (no_variable d p q P gs h) (arity_in d) c.args.answers)
    (clauses_there d p q P gs h s.machine (λ css f. program_there s.machine s.source.spans.items css e.stands e.ends (e.program h.clauses_within d css f) e.index)
    (e.written h.query_within h.depth d gs h.query_flattened (arity_in d) q.type_vars (goals_written d p q P gs h)))

pub returns-clause-constants : goal.returns-clause-constants
unfolding constants_of
returns-clause-constants c = ap (λ v. v.items) c.in_ok-machine.ensures.constants

pub returns-clause-steps : goal.returns-clause-steps
unfolding steps_of
returns-clause-steps c = c.in_ok-machine.ensures.steps
