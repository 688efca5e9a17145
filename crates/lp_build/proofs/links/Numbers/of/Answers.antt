use Rattle.std.proofs.Common.{◌∙◌, ap, take}
use Rattle.std.proofs.lemmas.List.{take_all}
use Rattle.lp_build.specs.Sights.{signature_of}
use Rattle.lp_build.proofs.Signing.{first_ones, so_many}
use Rattle.lp_build.proofs.links.Numbers.of.Goals as goal

pub loop-at-preserved : goal.loop-at-preserved
loop-at-preserved c = λ name.
    c.in_ok-add.ensures (take c.loop-at.at c.args.files.now) (so_many c.args.files.now c.loop-at.at c.loop-at-test.true) c.loop-at.invariant name ∙
    ap (λ fs. signature_of fs name) (first_ones c.args.files.now c.loop-at.at c.index-files-at.result c.loop-at-test.true c.index-files-at.is)

pub returns : goal.returns
returns c = λ name. c.loop-at.invariant name ∙ ap (λ fs. signature_of fs name) (take_all c.loop-at.at c.args.files.now c.loop-at-test.false)
