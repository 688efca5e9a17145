use Rattle.lp_module.proofs.Placing.{one_none, one_some}
use Rattle.lp_module.proofs.numbers.one_if_none.Goals as goal

pub returns-then-place-eq0-clause-one : goal.returns-then-place-eq0-clause-one
returns-then-place-eq0-clause-one c = one_none c.args.place c.if-place-eq0.true

pub returns-else-place-eq0-clause-one : goal.returns-else-place-eq0-clause-one
returns-else-place-eq0-clause-one c = one_some c.args.place c.if-place-eq0.false
