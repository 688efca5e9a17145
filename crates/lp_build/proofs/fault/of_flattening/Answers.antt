use Rattle.std.proofs.Common.{refl, subst}
use Rattle.lp_normal.specs.Counted.{IsOver}
use Rattle.lp_build.specs.Uncoded.{HasManyIn, no_space}
use Rattle.lp_build.proofs.Uncoding.{formula_told}
use Rattle.lp_build.proofs.fault.of_flattening.Goals as goal

pub returns-in-Limit-clause-cause : goal.returns-in-Limit-clause-cause
returns-in-Limit-clause-cause c = λ m h. formula_told m c.in-Limit.passed (subst (IsOver (HasManyIn m.bank m.clauses.items)) c.in-Limit.is h)

pub returns-in-Memory-clause-cause : goal.returns-in-Memory-clause-cause
returns-in-Memory-clause-cause c = λ m h. no_space refl
