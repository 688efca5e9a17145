use Rattle.std.proofs.Common.{◌∙◌}
use Rattle.lp_build.specs.inner.Linked.{number_of}
use Rattle.lp_build.proofs.links.Numbers.number.Goals as goal

pub returns : goal.returns
unfolding number_of
returns c = c.copied.ensures ∙ c.get.ensures.value
