use Rattle.std.proofs.Common.{◌≡◌, Some, subst, arith}
use Rattle.lp_verify.specs.inner.FirstNumbers.{IsLeftAt}
use Rattle.lp_verify.proofs.HeadTypes.{left_first, left_more, left_none}
use Rattle.lp_verify.proofs.head.HeadSoFar.left_at.Goals as goal

pub loop-init : goal.loop-init
loop-init c = (omega arith, λ T h. left_first c.args.types.now T c.args.self.now.whole h)

pub loop-preserved : goal.loop-preserved
loop-preserved c = (omega (arith, c.loop-test.true), λ T h. left_more c.args.types.now T c.loop.counter c.loop.rest _ c.in-Some.to c.as_arrow.result c.in-Some.is c.as_arrow.ensures (c.loop.invariant.1 T h))

pub returns-in-None : goal.returns-in-None
returns-in-None c = λ T h. left_none c.args.types.now T c.loop.counter c.args.number c.loop.rest c.as_arrow.result c.in-None.is c.as_arrow.ensures (omega (arith, c.loop-test.true)) (c.loop.invariant.1 T h)

pub returns : goal.returns
returns c = λ T h.
    let low = c.loop.invariant.0 in
    let all : c.loop.counter ≡ c.args.number = omega (arith, c.loop-test.false, low) in
    subst (λ n. IsLeftAt c.args.types.now T n (Some c.loop.rest)) all (c.loop.invariant.1 T h)
