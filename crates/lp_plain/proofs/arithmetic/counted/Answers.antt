use Rattle.std.proofs.Common.{◌+◌, arith, refl, subst, sym, None, Some}
use Rattle.lp_plain.specs.inner.Evaluating.{IsCounted}
use Rattle.lp_plain.proofs.arithmetic.counted.Goals as goal

pub returns-then-visited-ge-RUN_LIMIT : goal.returns-then-visited-ge-RUN_LIMIT
returns-then-visited-ge-RUN_LIMIT c = subst (λ x. IsCounted x c.args.visited None) (sym c.in-Visit.is) (refl, omega (arith, c.if-visited-ge-RUN_LIMIT.true))

pub returns-else-visited-ge-RUN_LIMIT : goal.returns-else-visited-ge-RUN_LIMIT
returns-else-visited-ge-RUN_LIMIT c = subst (λ x. IsCounted x c.args.visited (Some (c.args.visited + 1))) (sym c.in-Visit.is) (refl, omega (arith, c.if-visited-ge-RUN_LIMIT.false))

pub returns-in-Two : goal.returns-in-Two
returns-in-Two c = subst (λ x. IsCounted x c.args.visited (Some c.args.visited)) (sym c.in-Two.is) (omega arith, omega arith)

pub returns-in-One : goal.returns-in-One
returns-in-One c = subst (λ x. IsCounted x c.args.visited (Some c.args.visited)) (sym c.in-One.is) (omega arith, omega arith)
