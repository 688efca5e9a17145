use Rattle.std.proofs.Common.{ap, ◌∙◌}
use Rattle.lp_judge.specs.Negated.{first_among}
use Rattle.lp_judge.proofs.Negations.{found_of, none_at_fault}
use Rattle.lp_judge.proofs.unsupported.not_in.Goals as goal

pub returns-in-Ok : goal.returns-in-Ok
returns-in-Ok c = found_of c.args.text.now c.in-Ok.tokens.items c.first_of.result c.in-Ok.ensures (c.first_of.ensures ∙ ap (first_among c.args.text.now) c.as_slice.ensures.value)

pub returns-else-is_want : goal.returns-else-is_want
returns-else-is_want c = none_at_fault c.args.text.now c.in-Err.fault c.in-Err.ensures (c.is_want.ensures c.if-is_want.false)
