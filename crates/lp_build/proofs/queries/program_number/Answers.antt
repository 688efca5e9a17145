use Rattle.std.proofs.Common.{◌∙◌}
use Rattle.lp_build.proofs.Placing.{number_told}
use Rattle.lp_build.proofs.queries.program_number.Goals as goal

pub returns-in-Some : goal.returns-in-Some
returns-in-Some c = λ names has. number_told names c.args.name.now c.args.first c.in-Some.place c.number.result c.number_at.result
    (c.number.ensures ∙ has c.args.name.now) c.in-Some.is c.number_at.ensures
