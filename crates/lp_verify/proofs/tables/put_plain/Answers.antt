use Rattle.std.proofs.Common.{◌∙◌, [], ap}
use Rattle.lp_calculus.specs.Types.{con, tys}
use Rattle.lp_verify.proofs.tables.put_plain.Goals as goal

pub returns : goal.returns
returns c = (c.put_constructor.ensures.kept, c.in_ok-made.ensures.within, c.in_ok-made.ensures.tree ∙ ap (λ k. con k (tys [])) c.number.ensures.number)
