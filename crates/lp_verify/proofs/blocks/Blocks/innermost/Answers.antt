use Rattle.std.proofs.Common.{◌∙◌, Some, None, sym}
use Rattle.lp_verify.proofs.KeptBlocks.{innermost_is}
use Rattle.lp_verify.proofs.blocks.Blocks.innermost.Goals as goal

pub returns-in-Some : goal.returns-in-Some
returns-in-Some c = innermost_is c.args.self.now.frames.items (Some c.in-Some.frame) (sym c.in-Some.is ∙ c.last.ensures)

pub returns-in-None : goal.returns-in-None
returns-in-None c = innermost_is c.args.self.now.frames.items None (sym c.in-None.is ∙ c.last.ensures)
