use Rattle.std.proofs.Common.{◌+◌, ◌-◌, ◌∙◌, refl}
use Rattle.lp_module.specs.Program.{kind_in, kind_at}
use Rattle.lp_module.specs.Renumbering.{number_in}
use Rattle.lp_module.proofs.Placing.{hidden_none, hidden_some}
use Rattle.lp_module.proofs.numbers.kind_or.Goals as goal

pub returns-then-place-eq0 : goal.returns-then-place-eq0
returns-then-place-eq0 c = λ o e. c.in_ok-number.ensures ∙ hidden_none c.args.from (kind_in c.args.above.now.module.now (number_in c.args.above.now.names.kinds) (kind_at c.args.member.now c.args.at)) c.args.place c.if-place-eq0.true o e

pub returns : goal.returns
returns c = hidden_some c.args.from (kind_in c.args.above.now.module.now (number_in c.args.above.now.names.kinds) (kind_at c.args.member.now c.args.at)) c.args.place (c.args.from + (c.args.place - 1)) c.if-place-eq0.false refl
