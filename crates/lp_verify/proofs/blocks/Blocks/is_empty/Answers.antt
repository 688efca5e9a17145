use Rattle.std.proofs.Common.{◌∙◌}
use Rattle.lp_verify.proofs.KeptBlocks.{none_is, empty_is}
use Rattle.lp_verify.proofs.blocks.Blocks.is_empty.Goals as goal

pub returns : goal.returns
returns c = none_is c.last.result c.is_none.result c.is_none.ensures ∙ empty_is c.args.self.now.frames.items c.last.result c.last.ensures
