use Rattle.std.proofs.Common.{arith, subst as transport}
use Rattle.lp_term.specs.Facts.{IsReach}
use Rattle.lp_term.proofs.Knowing.{loose_more}
use Rattle.lp_term.proofs.facts.higher.Goals as goal

pub returns-in-Some-Some : goal.returns-in-Some-Some
returns-in-Some-Some c = λ t u h k. (
  loose_more c.in-Some-Some.r c.max.result 0 (omega (arith, c.max.ensures)) t (transport (λ o. IsReach o t) c.in-Some-Some.is-0 h),
  loose_more c.in-Some-Some.s c.max.result 0 (omega (arith, c.max.ensures)) u (transport (λ o. IsReach o u) c.in-Some-Some.is-1 k),
)
