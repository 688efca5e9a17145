use Rattle.std.proofs.Common.{◌≡◌, ◌≤◌, length, sym, ◌∙◌, arith}
use Rattle.std.proofs.lemmas.Grind.{common_steps}
use Rattle.lp_syntax.specs.declared.class.Class.TheVariants.{Dot, End}
use Rattle.lp_syntax.proofs.Tokens.{class_past}
use Rattle.lp_syntax.proofs.input.Input.dot.Goals as goal

pub returns-then-at-self-clause-none : goal.returns-then-at-self-clause-none
returns-then-at-self-clause-none c =
    let l : length c.args.self.now.tokens.now ≤ c.args.at = grind (arith, common_steps) in
    let z = class_past c.args.self.now.source.now c.args.self.now.tokens.now c.args.at l in
    λ y. let x : Dot ≡ End = sym y ∙ z in cc
