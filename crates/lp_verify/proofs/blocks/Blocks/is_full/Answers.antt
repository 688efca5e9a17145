use Rattle.std.proofs.Common.{◌∙◌, ap}
use Rattle.std.specs.Prelude.{nat_le}
use Rattle.lp_verify.proofs.KeptBlocks.{count_is}
use Rattle.lp_verify.proofs.blocks.Blocks.is_full.Goals as goal

pub returns : goal.returns
returns c = ap (nat_le 2000) (c.len.ensures ∙ c.args.self.now.frames.ok.0 ∙ count_is c.args.self.now.frames.items)
