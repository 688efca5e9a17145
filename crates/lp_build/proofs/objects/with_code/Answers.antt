use Rattle.lp_lemmas.proofs.Results.{passed_up}
use Rattle.lp_build.specs.Uncoded.{IsUncoded}
use Rattle.lp_build.proofs.Coding.{object_coded}
use Rattle.lp_build.proofs.objects.with_code.Goals as goal

pub returns-clause-names : goal.returns-clause-names
returns-clause-names c = λ h. record {
  name = h.name;
  kinds = h.kinds;
  exported_kinds = h.exported_kinds;
  constants = h.constants;
  exported_constants = h.exported_constants;
  uses = h.uses;
}

pub returns-clause-code : goal.returns-clause-code
returns-clause-code c = λ within h. object_coded c.args.module _ (c.in_ok-object.ensures.denotes within) h

pub returns-clause-within : goal.returns-clause-within
returns-clause-within c = λ within. c.in_ok-object.ensures.within within

pub returns-in_err-object-clause-cause : goal.returns-in_err-object-clause-cause
returns-in_err-object-clause-cause c = λ within. passed_up c.from_residual.result c.in_err-object.field-0.0 (IsUncoded c.args.module) c.from_residual.ensures.1 (c.in_err-object.ensures.cause within)
