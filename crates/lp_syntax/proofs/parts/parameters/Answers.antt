use Rattle.std.proofs.Common.{inr, ◌+◌, ◌++◌, [], ◌∷◌, refl, ap, ◌∙◌, arith, is_ok}
use Rattle.std.proofs.ResultArms.{chosen}
use Rattle.lp_syntax.specs.Tokens.{lexemes, spot_at}
use Rattle.lp_syntax.specs.Declarations.{no_parameter, parameter, bracketed}
use Rattle.lp_syntax.proofs.Tokens.{length_lexemes}
use Rattle.lp_syntax.proofs.LineCode.{spots_more, head_name_stops, parameters_stop}
use Rattle.lp_syntax.proofs.parts.parameters.Goals as goal

pub over-init : goal.over-init
over-init c =
    let w = c.if-not-is_lower.ensures.within refl in
    record { within = omega (arith, w); from = omega arith; list = record { numbers = []; holds = no_parameter; spots = c.new-parameters.ensures.items } }

pub returns-clause-head : goal.returns-clause-head
returns-clause-head c =
    let v = c.over.invariant.list in
    record {
      number = c.args.from + 1;
      numbers = v.numbers;
      head = bracketed c.args.from c.over.at _ _ _ c.requires.bracket (c.if-not-is_lower.ensures.class refl) refl v.holds (c.if-not-is_close.ensures.class refl) refl;
      spot_is = c.spot-name.ensures;
      spots = v.spots;
    }

pub over-preserved : goal.over-preserved
over-preserved c =
    let v = c.over.invariant in
    let w = c.over-test.ensures.within refl in
    let f = v.from in
    let ns = v.list.numbers in
    record {
      within = omega (arith, w);
      from = omega (arith, f);
      list = record {
        numbers = ns ++ c.over.at ∷ [];
        holds = parameter c.over.at _ ns _ v.list.holds (c.over-test.ensures.class refl) refl refl;
        spots = spots_more (spot_at c.args.input.now.file c.args.input.now.source.now c.args.input.now.tokens.now) ns c.over.at c.over.parameters.items _ v.list.spots (chosen _ _ _ _ c.push.ensures.items (ap is_ok c.in_ok-push.was) ∙ ap (λ s. c.over.parameters.items ++ s ∷ []) c.spot.ensures);
      };
    }

pub returns-then-not-is_lower-clause-fault : goal.returns-then-not-is_lower-clause-fault
returns-then-not-is_lower-clause-fault c =
    let w = c.requires.within in
    let e = length_lexemes c.args.input.now.source.now c.args.input.now.tokens.now in
    inr (head_name_stops (spot_at c.args.input.now.file c.args.input.now.source.now c.args.input.now.tokens.now) (lexemes c.args.input.now.source.now c.args.input.now.tokens.now) c.args.from _ c.requires.bracket (c.if-not-is_lower.ensures.no refl) (omega (arith, w, e)) c.refusal.ensures)

pub returns-then-not-is_close-clause-fault : goal.returns-then-not-is_close-clause-fault
returns-then-not-is_close-clause-fault c =
    let v = c.over.invariant in
    let w = v.within in
    let e = length_lexemes c.args.input.now.source.now c.args.input.now.tokens.now in
    inr (parameters_stop (spot_at c.args.input.now.file c.args.input.now.source.now c.args.input.now.tokens.now)
    (lexemes c.args.input.now.source.now c.args.input.now.tokens.now) c.args.from c.over.at v.list.numbers _ c.requires.bracket
    (c.if-not-is_lower.ensures.class refl) v.list.holds (c.over-test.ensures.no refl) (c.if-not-is_close.ensures.no refl) (omega (arith, w, e))
    c.refusal-then-not-is_close.ensures)
