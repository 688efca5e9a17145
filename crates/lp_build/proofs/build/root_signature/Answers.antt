use Rattle.lp_build.proofs.Building.{root_is}
use Rattle.lp_build.proofs.build.root_signature.Goals as goal

pub returns : goal.returns
returns c = λ files h. root_is files c.args.whole.now c.in-Some.root.now c.as_str.result.now c.own_of.result c.as_str.ensures.value c.in-Some.ensures
    (c.own_of.ensures files c.args.whole.now.texts.signatures h.links h.declared)
