use Rattle.std.proofs.Common.{◌∙◌, ◌&&◌, sym, refl, ap, arith, map, add-one}
use Rattle.lp_term.proofs.Knowing.{take_whole}
use Rattle.lp_cert.specs.Facts.{all_marked}
use Rattle.lp_cert.proofs.Marking.{marked_next}
use Rattle.lp_cert.proofs.known.Known.type_facts.Goals as goal

pub loop-of-init : goal.loop-of-init
loop-of-init c = refl

pub loop-of-preserved : goal.loop-of-preserved
loop-of-preserved c =
    c.both-closed.ensures ∙ (λ j. c.loop-of.invariant j && c.type_fact.ensures j) ∙
    sym (marked_next c.args.self.now.types.items c.args.types.now c.loop-of.of-index _ (add-one c.loop-of.of-index) c.loop-of-test.true)

pub returns : goal.returns
returns c = c.loop-of.invariant ∙ ap (λ l. all_marked c.args.self.now.types.items (map (λ t. t.0) l)) (take_whole c.args.types.now c.loop-of.of-index (omega (arith, c.loop-of-test.false)))
