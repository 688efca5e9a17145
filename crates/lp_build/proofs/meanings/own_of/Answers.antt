use Rattle.std.proofs.Common.{◌∙◌, sym}
use Rattle.lp_build.proofs.Growing.{own_signature}
use Rattle.lp_build.proofs.meanings.own_of.Goals as goal

pub returns : goal.returns
returns c = λ files g links declared. own_signature files g c.args.name.now c.in-Some.number c.get.result (sym (c.own.ensures files links) ∙ c.in-Some.is) (c.get.ensures g declared)
