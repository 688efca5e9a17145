use Rattle.std.proofs.Common.{◌∙◌, ap}
use Rattle.std.specs.Prelude.{is_none, slice_get}
use Rattle.lp_verify.specs.inner.Indices.{entries_in}
use Rattle.lp_verify.proofs.KeptBlocks.{none_is}
use Rattle.lp_verify.proofs.LooseSeen.{none_first}
use Rattle.lp_verify.proofs.loose.Lists.is_closed.Goals as goal

pub returns : goal.returns
returns c = none_is c.first.result c.is_none.result c.is_none.ensures ∙ ap is_none (c.first.ensures ∙ ap (λ es. slice_get es 0) c.entries.ensures) ∙ none_first (entries_in c.args.self.now c.args.loose)
