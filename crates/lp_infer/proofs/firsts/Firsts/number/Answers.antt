use Rattle.std.proofs.Common.{◌∙◌}
use Rattle.lp_infer.specs.Firsts.{number_in}
use Rattle.lp_infer.proofs.firsts.Firsts.number.Goals as goal

pub returns : goal.returns
unfolding number_in
returns c = c.copied.ensures ∙ c.get.ensures.value
