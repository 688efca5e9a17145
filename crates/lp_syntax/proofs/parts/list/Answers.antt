use Rattle.std.proofs.Common.{◌++◌, [], ◌∷◌, refl, sym, ap, ◌∙◌, arith, is_ok}
use Rattle.std.proofs.ResultArms.{chosen}
use Rattle.lp_syntax.specs.Tokens.{lexemes, spot_at}
use Rattle.std.proofs.Common.{inr}
use Rattle.lp_syntax.specs.Declarations.{none_listed, one_listed}
use Rattle.lp_syntax.proofs.Tokens.{length_lexemes}
use Rattle.lp_syntax.proofs.LineCode.{spots_more, list_stops}
use Rattle.lp_syntax.proofs.parts.list.Goals as goal

pub over-init : goal.over-init
over-init c = record { within = c.requires; from = omega arith; listed = record { numbers = []; holds = none_listed; spots = c.new-spots.ensures.items } }

pub over-preserved : goal.over-preserved
over-preserved c =
    let v = c.over.invariant in
    let w = c.if-not-is_comma.ensures.within refl in
    let f = v.from in
    let ns = v.listed.numbers in
    record {
      within = omega (arith, w);
      from = omega (arith, f);
      listed = record {
        numbers = ns ++ c.over.at ∷ [];
        holds = one_listed c.over.at _ ns _ v.listed.holds (sym c.listed.ensures.is ∙ c.over-test.true) (c.if-not-is_comma.ensures.class refl) refl refl;
        spots = spots_more (spot_at c.args.input.now.file c.args.input.now.source.now c.args.input.now.tokens.now) ns c.over.at c.over.spots.items _ v.listed.spots (chosen _ _ _ _ c.push.ensures.items (ap is_ok c.in_ok-push.was) ∙ ap (λ s. c.over.spots.items ++ s ∷ []) c.spot.ensures);
      };
    }

pub returns-then-not-is_comma-clause-listed : goal.returns-then-not-is_comma-clause-listed
returns-then-not-is_comma-clause-listed c =
    let v = c.over.invariant in
    let ns = v.listed.numbers in
    record {
      numbers = ns ++ c.over.at ∷ [];
      holds = record { final = c.over.at; front = ns; before = v.listed.holds; fits = sym c.listed.ensures.is ∙ c.over-test.true; end = refl; all = refl };
      spots = spots_more (spot_at c.args.input.now.file c.args.input.now.source.now c.args.input.now.tokens.now) ns c.over.at c.over.spots.items _ v.listed.spots (chosen _ _ _ _ c.push.ensures.items (ap is_ok c.in_ok-push.was) ∙ ap (λ s. c.over.spots.items ++ s ∷ []) c.spot.ensures);
    }

pub returns-clause-fault : goal.returns-clause-fault
returns-clause-fault c =
    let v = c.over.invariant in
    let w = v.within in
    let e = length_lexemes c.args.input.now.source.now c.args.input.now.tokens.now in
    λ k y. inr (list_stops (spot_at c.args.input.now.file c.args.input.now.source.now c.args.input.now.tokens.now)
    (lexemes c.args.input.now.source.now c.args.input.now.tokens.now) k c.args.words c.args.from c.over.at v.listed.numbers _ v.listed.holds y
    (sym c.listed.ensures.is ∙ c.over-test.false) (omega (arith, w, e)) c.refusal.ensures)
