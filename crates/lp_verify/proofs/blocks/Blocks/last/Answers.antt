use Rattle.std.proofs.Common.{◌∙◌, ap, length}
use Rattle.std.specs.Prelude.{◌-◌, slice_get}
use Rattle.lp_verify.proofs.KeptBlocks.{last_frame}
use Rattle.lp_verify.proofs.blocks.Blocks.last.Goals as goal

pub returns : goal.returns
returns c = c.copied.ensures ∙ c.last.ensures.value ∙ ap (λ l. slice_get l (length l - 1)) c.deref.ensures.value ∙ last_frame c.args.self.now.frames.items
