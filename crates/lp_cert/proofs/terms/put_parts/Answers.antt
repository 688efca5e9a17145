use Rattle.std.proofs.Common.{◌≡◌, ◌-◌, map, length, drop, refl, sym, ap, ◌∙◌, arith}
use Rattle.lp_term.proofs.Trees.{extends_same, extends-trans}
use Rattle.lp_cert.specs.Reading.{terms_made}
use Rattle.lp_cert.specs.inner.Parts.{terms_stacked}
use Rattle.lp_cert.proofs.Within.{part_on, no_terms_inside}
use Rattle.lp_cert.proofs.Firsts.{term_part_before, none_behind}
use Rattle.lp_cert.proofs.terms.put_parts.Goals as goal

pub loop-left-init : goal.loop-left-init
loop-left-init c = (omega arith, extends_same _, λ inside. no_terms_inside _ _ c.new-stack.ensures.items, λ tops same b y. ap (terms_stacked b) c.new-stack.ensures.items ∙ sym (ap terms_made (none_behind c.args.bank.now c.args.parts.now tops (length c.args.parts.now) refl same)))

pub loop-left-preserved : goal.loop-left-preserved
loop-left-preserved c = (
  omega (arith, c.loop-left.invariant.0, c.loop-left-test.true),
  extends-trans _ _ _ c.loop-left.invariant.1 c.in_ok-put_part.ensures.kept,
  λ inside. c.in_ok-put_part.ensures.inside (part_on _ _ c.loop-left.invariant.1 _ (inside (c.loop-left.left - 1) _ (omega (arith, c.loop-left.invariant.0, c.loop-left-test.true)))) (c.loop-left.invariant.2 inside),
  λ tops same b y.
      let s = term_part_before c.args.bank.now c.args.parts.now tops c.loop-left.left (c.loop-left.left - 1) _ _ c.loop-left-test.true c.loop-left.invariant.0 refl refl same in
      c.in_ok-put_part.ensures.made s.0 (terms_made (drop c.loop-left.left tops)) (λ e z. (s.2 e (extends-trans _ _ e c.loop-left.invariant.1 z), c.loop-left.invariant.3 tops same e z)) b y ∙ ap terms_made (sym s.1),
)

pub returns-clause-made : goal.returns-clause-made
returns-clause-made c =
    let none : c.loop-left.left ≡ 0 = omega (arith, c.loop-left-test.false) in
    λ tops same b y. c.loop-left.invariant.3 tops same b y ∙ ap (λ n. terms_made (drop n tops)) none

pub returns-clause-inside : goal.returns-clause-inside
returns-clause-inside c = c.loop-left.invariant.2
