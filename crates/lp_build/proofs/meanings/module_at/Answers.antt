use Rattle.std.proofs.Common.{inl, inr, refl, subst}
use Rattle.std.specs.Prelude.{string_bytes}
use Rattle.lp_lemmas.proofs.Results.{passed_up}
use Rattle.lp_module.specs.Meaning.{IsMeaning}
use Rattle.lp_module.specs.Refusals.{IsRefusal}
use Rattle.lp_build.specs.Meant.{IsOwnSignature}
use Rattle.lp_build.specs.Refused.{IsModuleFault}
use Rattle.lp_build.specs.declared.fault.BuildFault.TheVariants as fault
use Rattle.lp_build.specs.inner.Refusing.{IsToldOf}
use Rattle.lp_build.proofs.meanings.module_at.Goals as goal

pub returns-in-Ok-clause-meaning : goal.returns-in-Ok-clause-meaning
returns-in-Ok-clause-meaning c = λ files g links declared. record {
  number = c.in-Some-found_at-3.number.now;
  name = c.in-Some.name.now;
  source = c.in-Some-found_at.source.now;
  text = c.in-Some-found_at-2.text.now;
  own = c.in-Some-own_of.own.now;
  used = c.in_ok-used.used.items;
  at_number = c.in-Some-found_at-3.ensures;
  at_name = c.in-Some.ensures;
  at_source = c.in-Some-found_at.ensures;
  at_text = c.in-Some-found_at-2.ensures;
  own_is = subst (λ n. IsOwnSignature files g n c.in-Some-own_of.own.now) c.as_str.ensures.value (c.in-Some-own_of.ensures files g links declared);
  used_are = c.in_ok-used.ensures files g links declared;
  meaning =
      subst (λ x. IsMeaning x c.in-Some-found_at-2.text.now (string_bytes c.in-Some.name.now) c.in-Some-own_of.own.now c.in_ok-used.used.items c.in-Ok.module) c.as_slice-bytes.ensures.value
      (subst (λ x. IsMeaning c.as_slice-bytes.result.now c.in-Some-found_at-2.text.now x c.in-Some-own_of.own.now c.in_ok-used.used.items c.in-Ok.module) c.as_str-2.ensures.value
      (subst (λ x. IsMeaning c.as_slice-bytes.result.now c.in-Some-found_at-2.text.now c.as_str-2.result.now c.in-Some-own_of.own.now x
      c.in-Ok.module) c.as_slice-seen.ensures.value c.in-Ok.ensures.meaning));
}

pub returns-clause-cause : goal.returns-clause-cause
returns-clause-cause c = λ files g links declared. inr (
  c.in-Err.fault,
  record {
    number = c.in-Some-found_at-3.number.now;
    name = c.in-Some.name.now;
    source = c.in-Some-found_at.source.now;
    text = c.in-Some-found_at-2.text.now;
    own = c.in-Some-own_of.own.now;
    used = c.in_ok-used.used.items;
    at_number = c.in-Some-found_at-3.ensures;
    at_name = c.in-Some.ensures;
    at_source = c.in-Some-found_at.ensures;
    at_text = c.in-Some-found_at-2.ensures;
    own_is = subst (λ n. IsOwnSignature files g n c.in-Some-own_of.own.now) c.as_str.ensures.value (c.in-Some-own_of.ensures files g links declared);
    used_are = c.in_ok-used.ensures files g links declared;
    refused =
        subst (λ x. IsRefusal x c.in-Some-found_at-2.text.now (string_bytes c.in-Some.name.now) c.in-Some-own_of.own.now c.in_ok-used.used.items c.in-Err.fault) c.as_slice-bytes.ensures.value
        (subst (λ x. IsRefusal c.as_slice-bytes.result.now c.in-Some-found_at-2.text.now x c.in-Some-own_of.own.now c.in_ok-used.used.items c.in-Err.fault) c.as_str-2.ensures.value
        (subst (λ x. IsRefusal c.as_slice-bytes.result.now c.in-Some-found_at-2.text.now c.as_str-2.result.now c.in-Some-own_of.own.now x c.in-Err.fault) c.as_slice-seen.ensures.value
        c.in-Err.ensures.refused));
  },
  c.module_fault.ensures.same,
)

pub returns-in_err-used-clause-cause : goal.returns-in_err-used-clause-cause
returns-in_err-used-clause-cause c = λ files g links declared.
    passed_up c.from_residual.result fault.Memory (IsToldOf (IsModuleFault files g c.args.group.now c.args.place)) c.from_residual.ensures.1 (inl refl)
