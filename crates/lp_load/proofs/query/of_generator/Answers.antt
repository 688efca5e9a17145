use Rattle.std.proofs.Common.{refl, subst, sym}
use Rattle.lp_lines.specs.declared.cause.Cause.TheVariants as cause
use Rattle.lp_load.specs.Refused.{TellsCode}
use Rattle.lp_load.proofs.query.of_generator.Goals as goal

pub returns-in-Limit-clause-tells : goal.returns-in-Limit-clause-tells
returns-in-Limit-clause-tells c = subst (λ e. TellsCode e (cause.Limit c.in-Limit.limit)) (sym c.in-Limit.is) refl

pub returns-in-Memory-clause-tells : goal.returns-in-Memory-clause-tells
returns-in-Memory-clause-tells c = subst (λ e. TellsCode e cause.Memory) (sym c.in-Memory.is) refl
