use Rattle.std.proofs.Common.{◌<◌, ◌≤◌, inl, inr, length, refl, sym, ◌∙◌, arith}
use Rattle.std.proofs.lemmas.Grind.{common_steps}
use Rattle.lp_syntax.specs.Tokens.{lexemes}
use Rattle.lp_syntax.specs.References.{stop_here, at_last}
use Rattle.lp_syntax.proofs.Tokens.{length_lexemes}
use Rattle.lp_syntax.proofs.Referring.{from_next}
use Rattle.lp_syntax.proofs.outline.next.Goals as goal

pub over-init : goal.over-init
over-init c = let w = c.requires in record { within = omega (arith, w); from = omega arith; first = inl refl; next = λ k s. s }

pub returns-then-is_dot-clause-next : goal.returns-then-is_dot-clause-next
returns-then-is_dot-clause-next c = c.over.invariant.next _ (stop_here c.over.at _ (sym c.class.ensures ∙ c.if-is_dot.ensures.yes refl) refl)

pub over-preserved : goal.over-preserved
over-preserved c =
    let v = c.over.invariant in
    let f = v.from in
    let w : c.over.at < length c.args.input.now.tokens.now = grind (arith, common_steps) in
    record { within = omega (arith, w); from = omega (arith, f); first = inr (omega (arith, f)); next = from_next (lexemes c.args.input.now.source.now c.args.input.now.tokens.now) c.args.from c.over.at v.next (λ y. c.if-is_dot.ensures.no refl (c.class.ensures ∙ y)) }

pub returns-clause-next : goal.returns-clause-next
returns-clause-next c =
    let v = c.over.invariant in
    let u : length c.args.input.now.tokens.now ≤ c.over.at = grind (arith, common_steps) in
    let l = length_lexemes c.args.input.now.source.now c.args.input.now.tokens.now in
    v.next c.over.at (at_last c.over.at (omega (arith, u, l)))
