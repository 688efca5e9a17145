use Rattle.std.proofs.Common.{◌≡◌, ◌-◌, map, length, drop, refl, sym, ap, ◌∙◌, arith}
use Rattle.std.proofs.lemmas.List.{drop_all}
use Rattle.lp_term.proofs.Trees.{extends_same, extends-trans}
use Rattle.lp_object.specs.Reading.{types_made}
use Rattle.lp_object.specs.inner.Parts.{type_top_of, types_stacked}
use Rattle.lp_object.proofs.Stacked.{part_before}
use Rattle.lp_object.proofs.schemes.put_parts.Goals as goal

pub loop-left-init : goal.loop-left-init
loop-left-init c = (omega arith, extends_same _, λ b y. ap (types_stacked b) c.new-stack.ensures.items ∙ sym (ap (λ ps. types_made (map type_top_of ps)) (drop_all (length c.args.parts.now) c.args.parts.now (omega arith))))

pub loop-left-preserved : goal.loop-left-preserved
loop-left-preserved c = (
  omega (arith, c.loop-left.invariant.0, c.loop-left-test.true),
  extends-trans _ _ _ c.loop-left.invariant.1 c.in_ok-put_part.ensures.kept,
  λ b y. c.in_ok-put_part.ensures.made _ c.loop-left.invariant.2 b y ∙ sym (ap types_made (part_before type_top_of c.args.parts.now c.loop-left.left (c.loop-left.left - 1) _ _ c.loop-left-test.true c.loop-left.invariant.0 refl refl)),
)

pub returns-clause-made : goal.returns-clause-made
returns-clause-made c =
    let none : c.loop-left.left ≡ 0 = omega (arith, c.loop-left-test.false) in
    λ b y. c.loop-left.invariant.2 b y ∙ ap (λ n. types_made (map type_top_of (drop n c.args.parts.now))) none
