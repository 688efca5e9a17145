use Rattle.std.proofs.Common.{◌∙◌, sym}
use Rattle.lp_module.specs.Renumbering.{number_in}
use Rattle.lp_module.proofs.Placing.{constant_found}
use Rattle.lp_module.proofs.numbers.constant_above.Goals as goal

pub returns-in-Some : goal.returns-in-Some
returns-in-Some c = c.of.ensures ∙ constant_found c.args.member.now c.args.above.now.module.now (number_in c.args.above.now.names.constants) c.args.at
    c.constants.result.now c.index-constants-at.result c.as_slice.result.now c.in-Some.found c.constants.ensures c.requires c.index-constants-at.is
    c.as_slice.ensures.value (sym c.constant.ensures ∙ c.in-Some.is)
