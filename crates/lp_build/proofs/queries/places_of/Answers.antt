use Rattle.std.proofs.Common.{◌∙◌, ap, take}
use Rattle.std.proofs.lemmas.List.{take_all}
use Rattle.lp_build.specs.Queried.{global_of}
use Rattle.lp_build.proofs.Signing.{first_ones, so_many}
use Rattle.lp_build.proofs.queries.places_of.Goals as goal

pub loop-at-preserved : goal.loop-at-preserved
loop-at-preserved c = λ name.
    c.in_ok-add_global.ensures (take c.loop-at.at c.args.names.now) (so_many c.args.names.now c.loop-at.at c.loop-at-test.true) c.loop-at.invariant name ∙
    ap (λ gs. global_of gs name) (first_ones c.args.names.now c.loop-at.at c.index-names-at.result c.loop-at-test.true c.index-names-at.is)

pub returns : goal.returns
returns c = λ name. c.loop-at.invariant name ∙ ap (λ gs. global_of gs name) (take_all c.loop-at.at c.args.names.now c.loop-at-test.false)
