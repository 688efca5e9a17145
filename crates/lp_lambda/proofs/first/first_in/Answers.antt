use Rattle.std.proofs.Common.{length, refl, arith, subst, map}
use Rattle.std.specs.Prelude.{All}
use Rattle.std.proofs.lemmas.Option.{slice_get_read}
use Rattle.lp_term.proofs.Knowing.{take_whole}
use Rattle.lp_lambda.specs.First.{formulas_of, ArePatternClauses}
use Rattle.lp_lambda.proofs.Surveying.{taken_more, first_module_at}
use Rattle.lp_lambda.proofs.first.first_in.Goals as goal

pub returns-in-Some : goal.returns-in-Some
returns-in-Some c =
    let xs = c.args.modules.now in
    let i = c.loop-place.place in
    let x = c.index-modules-place.result in
    let l = c.loop-place-test.true in
    first_module_at formulas_of xs i c.in_ok-at-in-Some.at c.in-Some.number x (slice_get_read xs (length xs) i x refl (omega (arith, l)) c.index-modules-place.is) (omega (arith, l)) c.in_ok-at-in-Some.ensures c.loop-place.invariant
    (rw c.in-Some.is at c.in_ok-found.ensures)

pub loop-place-preserved : goal.loop-place-preserved
loop-place-preserved c =
    let xs = c.args.modules.now in
    let i = c.loop-place.place in
    let x = c.index-modules-place.result in
    let l = c.loop-place-test.true in
    taken_more formulas_of xs i x (slice_get_read xs (length xs) i x refl (omega (arith, l)) c.index-modules-place.is) ArePatternClauses c.loop-place.invariant (rw c.in-None.is at c.in_ok-found.ensures)

pub returns : goal.returns
returns c =
    let l = c.loop-place-test.false in
    subst (λ z. All ArePatternClauses (map formulas_of z)) (take_whole c.args.modules.now c.loop-place.place (omega (arith, l))) c.loop-place.invariant
