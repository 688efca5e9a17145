use Rattle.std.proofs.Common.{◌+◌, ◌-◌, refl}
use Rattle.lp_module.proofs.Placing.{hidden_none, hidden_some}
use Rattle.lp_module.proofs.numbers.hidden_or.Goals as goal

pub returns-then-place-eq0 : goal.returns-then-place-eq0
returns-then-place-eq0 c = hidden_none c.args.from c.args.other c.args.place c.if-place-eq0.true

pub returns : goal.returns
returns c = hidden_some c.args.from c.args.other c.args.place (c.args.from + (c.args.place - 1)) c.if-place-eq0.false refl
