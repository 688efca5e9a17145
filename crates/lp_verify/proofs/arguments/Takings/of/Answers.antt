use Rattle.std.proofs.Common.{◌≡◌, ◌∙◌, ◌<◌, drop, subst, arith}
use Rattle.lp_lemmas.proofs.Lists.{get_below}
use Rattle.lp_verify.specs.inner.Taken.{before_neck, AreFirstTaken}
use Rattle.lp_verify.proofs.Looked.{copied_at}
use Rattle.lp_verify.proofs.FirstTaken.{none_first, one_first}
use Rattle.lp_verify.proofs.arguments.Takings.of.Goals as goal

pub loop-number-init : goal.loop-number-init
loop-number-init c = (omega arith, none_first c.args.code.now c.head_length-head.result c.new.result c.head_length-head.ensures.are c.new.ensures.empty)

pub loop-number-preserved : goal.loop-number-preserved
loop-number-preserved c =
    let code = c.args.code.now in
    let n = c.head_length-head.result in
    let k = c.saturating_sub-number.result in
    let inv = c.loop-number.invariant.0 in
    let within = c.head_length-head.ensures.within in
    let less = c.saturating_sub-number.ensures in
    let below : k < n = omega (arith, less, inv, c.loop-number-test.true) in
    let item = get_below code k (omega (arith, below, within)) in (
      omega (arith, less, inv),
      one_first code n k c.loop-number.number item.0 c.loop-number.takings.first c.pass_one.new.self.first
          c.head_length-head.ensures.are below (omega (arith, less, c.loop-number-test.true)) item.1
          (λ f h x q. c.in_ok-pass_one.ensures item.0 f (copied_at code k c.get.result c.get.ensures.lookup ∙ item.1) h x q) c.loop-number.invariant.1,
    )

pub returns : goal.returns
returns c =
    let zero : c.loop-number.number ≡ 0 = omega (arith, c.loop-number-test.false) in
    subst (λ k. AreFirstTaken k (drop k (before_neck c.args.code.now)) c.loop-number.takings.first) zero c.loop-number.invariant.1
