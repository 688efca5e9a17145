use Rattle.std.proofs.Common.{◌++◌, ◌∷◌, [], map, take, ap, ◌∙◌, inr, refl, subst, sym}
use Rattle.std.specs.Prelude.{Contains}
use Rattle.lp_sig.specs.Pieces.{spelled}
use Rattle.lp_sig.specs.Places.{HasPlaces}
use Rattle.lp_sig.proofs.Repeats.{placed, not_placed, names_more, still_apart, all_apart, repeated, so_long}
use Rattle.lp_sig.proofs.expand.check_apart.Goals as goal

pub loop-i-preserved : goal.loop-i-preserved
loop-i-preserved c =
    let ps = c.args.parameters.now in
    let ns = map (λ w. spelled c.args.source.now w) (take c.loop-i.i ps) in
    let word = c.spelled_at-word.result.now in
    record {
      known = subst (HasPlaces c.add.new.self) (ap (λ w. ns ++ w ∷ []) c.spelled_at-word.ensures ∙ names_more c.args.source.now ps c.loop-i.i _ c.loop-i-test.true)
          (c.in_ok-add.ensures.added ns (so_long c.args.source.now ps c.loop-i.i c.loop-i-test.true) c.loop-i.invariant.known);
      apart = still_apart c.args.source.now ps c.loop-i.i _ c.loop-i-test.true c.loop-i.invariant.apart
          (λ d. not_placed word ns c.of.result (c.of.ensures ∙ c.loop-i.invariant.known word) (sym c.is_some.ensures ∙ c.if-is_some.false) (subst (Contains ns) (sym c.spelled_at-word.ensures) d));
    }

pub returns-clause-taken : goal.returns-clause-taken
returns-clause-taken c = all_apart c.args.source.now c.args.parameters.now c.loop-i.i c.loop-i-test.false c.loop-i.invariant.apart

pub returns-then-is_some-clause-repeated : goal.returns-then-is_some-clause-repeated
returns-then-is_some-clause-repeated c =
    let ns = map (λ w. spelled c.args.source.now w) (take c.loop-i.i c.args.parameters.now) in
    inr (
      _,
      refl,
      repeated c.args.source.now c.args.parameters.now c.loop-i.i _ c.loop-i-test.true c.loop-i.invariant.apart
          (subst (Contains ns) c.spelled_at-word.ensures (placed c.spelled_at-word.result.now ns c.of.result (c.of.ensures ∙ c.loop-i.invariant.known c.spelled_at-word.result.now) (sym c.is_some.ensures ∙ c.if-is_some.true))),
    )
