use Rattle.std.proofs.Common.{◌∙◌, sym}
use Rattle.lp_module.specs.Renumbering.{number_in}
use Rattle.lp_module.proofs.Placing.{kind_found}
use Rattle.lp_module.proofs.numbers.kind_above.Goals as goal

pub returns-in-Some : goal.returns-in-Some
returns-in-Some c = c.of.ensures ∙ kind_found c.args.member.now c.args.above.now.module.now (number_in c.args.above.now.names.kinds) c.args.at
    c.kinds.result.now c.index-kinds-at.result c.as_slice.result.now c.in-Some.found c.kinds.ensures c.requires c.index-kinds-at.is
    c.as_slice.ensures.value (sym c.kind.ensures ∙ c.in-Some.is)
