use Rattle.std.proofs.Common.{◌≡◌, ◌≤◌, length, sym, ◌∙◌, arith}
use Rattle.std.proofs.lemmas.Grind.{common_steps}
use Rattle.lp_syntax.specs.declared.class.Class.TheVariants as class
use Rattle.lp_syntax.proofs.Tokens.{class_past}
use Rattle.lp_syntax.proofs.parts.number.Goals as goal

pub returns-then-at-input-clause-none : goal.returns-then-at-input-clause-none
returns-then-at-input-clause-none c =
    let l : length c.args.input.now.tokens.now ≤ c.args.at = grind (arith, common_steps) in
    let z = class_past c.args.input.now.source.now c.args.input.now.tokens.now c.args.at l in
    λ n y. let x : class.Number n ≡ class.End = sym y ∙ z in cc

pub returns-in_default-clause-none : goal.returns-in_default-clause-none
returns-in_default-clause-none c = λ n y. c.in_default.not-Number n (c.class.ensures ∙ y)
