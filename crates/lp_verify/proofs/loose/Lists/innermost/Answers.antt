use Rattle.std.proofs.Common.{◌∙◌, ap}
use Rattle.std.specs.Prelude.{slice_get}
use Rattle.lp_verify.specs.inner.Indices.{innermost_of}
use Rattle.lp_verify.proofs.loose.Lists.innermost.Goals as goal

pub returns : goal.returns
returns c = c.innermost_of.ensures ∙ ap (innermost_of c.args.loose.lowered) (c.first.ensures ∙ ap (λ es. slice_get es 0) c.entries.ensures)
