use Rattle.std.proofs.Common.{◌∙◌}
use Rattle.lp_fixity.specs.Table.{entry_of}
use Rattle.lp_fixity.proofs.table.Table.of.Goals as goal

pub returns : goal.returns
unfolding entry_of
returns c = c.copied.ensures ∙ c.get.ensures.value
