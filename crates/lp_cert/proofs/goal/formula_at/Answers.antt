use Rattle.std.proofs.Common.{arith}
use Rattle.lp_cert.proofs.goal.formula_at.Goals as goal

pub returns-clause-formula : goal.returns-clause-formula
returns-clause-formula c = (omega (arith, c.if-types-count.false), λ a. c.in_ok-made.ensures.tree a (c.is_inside.ensures.inside c.if-not-is_inside.false))

pub returns-then-types-count-clause-none : goal.returns-then-types-count-clause-none
returns-then-types-count-clause-none c = λ e l q. absurd (c.if-types-count.true (omega (arith, q)))

pub returns-then-not-is_inside-clause-none : goal.returns-then-not-is_inside-clause-none
returns-then-not-is_inside-clause-none c = λ e l q. absurd (omega (arith, l, c.is_inside.ensures.outside c.if-not-is_inside.true))
