use Rattle.std.proofs.Common.{◌∙◌}
use Rattle.lp_module.specs.Files.{number_of}
use Rattle.lp_module.proofs.files.Files.number.Goals as goal

pub returns : goal.returns
unfolding number_of
returns c = c.copied.ensures ∙ c.get.ensures.value
