use Rattle.std.proofs.Common.{inr, ◌≡◌, ◌≤◌, [], length, refl, sym, ◌∙◌, arith}
use Rattle.std.proofs.lemmas.Grind.{common_steps}
use Rattle.lp_syntax.specs.Tokens.{lexemes, spot_at}
use Rattle.lp_syntax.specs.declared.class.Class.TheVariants as class
use Rattle.lp_syntax.specs.Declarations.{bare}
use Rattle.lp_syntax.proofs.Tokens.{length_lexemes, class_past}
use Rattle.lp_syntax.proofs.LineCode.{head_stops}
use Rattle.lp_syntax.proofs.parts.abbreviated.Goals as goal

pub returns-in-Lower-clause-head : goal.returns-in-Lower-clause-head
returns-in-Lower-clause-head c = record { number = c.args.from; numbers = []; head = bare c.args.from _ _ [] (sym c.class.ensures ∙ c.in-Lower.is) refl refl refl; spot_is = c.spot.ensures; spots = c.new.ensures.items }

pub returns-then-from-input-clause-fault : goal.returns-then-from-input-clause-fault
returns-then-from-input-clause-fault c =
    let l : length c.args.input.now.tokens.now ≤ c.args.from = grind (arith, common_steps) in
    let w = c.requires in
    let e = length_lexemes c.args.input.now.source.now c.args.input.now.tokens.now in
    let z = class_past c.args.input.now.source.now c.args.input.now.tokens.now c.args.from l in
    inr (head_stops (spot_at c.args.input.now.file c.args.input.now.source.now c.args.input.now.tokens.now)
    (lexemes c.args.input.now.source.now c.args.input.now.tokens.now) c.args.from _ (λ y. let x : class.Lower ≡ class.End = sym y ∙ z in cc)
    (λ y. let x : class.Open ≡ class.End = sym y ∙ z in cc) (omega (arith, w, e)) c.refusal.ensures)

pub returns-in_default-clause-fault : goal.returns-in_default-clause-fault
returns-in_default-clause-fault c =
    let w = c.requires in
    let e = length_lexemes c.args.input.now.source.now c.args.input.now.tokens.now in
    inr (head_stops (spot_at c.args.input.now.file c.args.input.now.source.now c.args.input.now.tokens.now)
    (lexemes c.args.input.now.source.now c.args.input.now.tokens.now) c.args.from _ (λ y. c.in_default.not-Lower (c.class.ensures ∙ y))
    (λ y. c.in_default.not-Open (c.class.ensures ∙ y)) (omega (arith, w, e)) c.refusal-in_default.ensures)
