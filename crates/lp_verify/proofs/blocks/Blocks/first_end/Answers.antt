use Rattle.std.proofs.Common.{◌∙◌, Some, None, sym, reverse}
use Rattle.lp_verify.proofs.KeptBlocks.{end_is}
use Rattle.lp_verify.proofs.blocks.Blocks.first_end.Goals as goal

pub returns-in-Some : goal.returns-in-Some
returns-in-Some c = sym (end_is (reverse c.args.self.now.frames.items) (Some c.in-Some.frame) (sym c.in-Some.is ∙ c.last.ensures))

pub returns-in-None : goal.returns-in-None
returns-in-None c = sym (end_is (reverse c.args.self.now.frames.items) None (sym c.in-None.is ∙ c.last.ensures))
