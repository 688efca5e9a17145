use Rattle.std.proofs.Common.{◌≡◌, ◌≤◌, length, subst, arith}
use Rattle.std.proofs.lemmas.Grind.{common_steps}
use Rattle.lp_syntax.specs.Tokens.{lexemes, spot_at}
use Rattle.lp_syntax.specs.References.{AreReferences}
use Rattle.lp_syntax.proofs.Referring.{none_found}
use Rattle.lp_syntax.proofs.outline.references.Goals as goal

pub over-init : goal.over-init
over-init c = record { within = omega arith; found = none_found (spot_at c.args.file c.args.source.now c.args.tokens.now) (lexemes c.args.source.now c.args.tokens.now) c.new-found.result c.new-found.ensures.accumulate c.new-found.ensures.accum_sig c.new-found.ensures.fixities }

pub over-preserved : goal.over-preserved
over-preserved c = record { within = c.next-at.ensures.within; found = c.in_ok-take.ensures c.next-at.result c.next-at.ensures.next c.over.invariant.found }

pub returns : goal.returns
returns c =
    let v = c.over.invariant in
    let w = v.within in
    let u : length c.args.tokens.now ≤ c.over.at = grind (arith, common_steps) in
    subst (λ k. AreReferences (spot_at c.args.file c.args.source.now c.args.tokens.now) (lexemes c.args.source.now c.args.tokens.now) k c.over.found) (let z : c.over.at ≡ length c.args.tokens.now = omega (arith, u, w) in z) v.found
