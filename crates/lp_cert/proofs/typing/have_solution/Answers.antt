use Rattle.lp_cert.proofs.Comparisons.{solved_is, solved_none}
use Rattle.lp_cert.proofs.typing.have_solution.Goals as goal

pub returns-clause-solved : goal.returns-clause-solved
returns-clause-solved c = λ e. solved_is c.args.bank.now c.args.pairs.now _ c.in-Some._bindings c.in-Some.is c.in_ok-_bindings.ensures.solved

pub returns-clause-inside : goal.returns-clause-inside
returns-clause-inside c = λ e. c.are_pairs.ensures.inside c.if-not-are_pairs.false

pub returns-then-not-are_pairs-clause-none : goal.returns-then-not-are_pairs-clause-none
returns-then-not-are_pairs-clause-none c = λ e i. absurd (c.are_pairs.ensures.outside c.if-not-are_pairs.true i)

pub returns-in_default-clause-none : goal.returns-in_default-clause-none
returns-in_default-clause-none c = λ e i. solved_none c.args.bank.now c.args.pairs.now _ c.in_default.is c.in_ok-_bindings.ensures.solved
