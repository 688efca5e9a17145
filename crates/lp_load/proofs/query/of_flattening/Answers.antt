use Rattle.std.proofs.Common.{inl, refl, subst}
use Rattle.lp_normal.specs.Counted.{AssumesManyClauses, IsOver}
use Rattle.lp_load.proofs.Refusing.{limit_told}
use Rattle.lp_load.proofs.query.of_flattening.Goals as goal

pub returns-in-Limit-clause-cause : goal.returns-in-Limit-clause-cause
returns-in-Limit-clause-cause c = λ t h. limit_told t c.in-Limit.limit (subst (IsOver (AssumesManyClauses t)) c.in-Limit.is h)

pub returns-in-Memory-clause-cause : goal.returns-in-Memory-clause-cause
returns-in-Memory-clause-cause c = λ t h. inl refl
