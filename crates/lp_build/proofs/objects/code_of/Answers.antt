use Rattle.std.proofs.Common.{◌∙◌, map, ap, sym, subst, refl}
use Rattle.lp_lemmas.proofs.Results.{passed_up}
use Rattle.lp_model.specs.Readings.{scheme_of}
use Rattle.lp_module.specs.Sentences.{AreWithin}
use Rattle.lp_gen.specs.Limits.{ClausesPass, ClausesWithin}
use Rattle.lp_normal.specs.Counted.{IsOver}
use Rattle.lp_build.specs.Uncoded.{HasManyIn, HaveFewIn, IsUncoded, no_space, of_limits}
use Rattle.lp_build.specs.declared.fault.BuildFault.TheVariants as fault
use Rattle.lp_build.specs.inner.Coded.{AreFlat}
use Rattle.lp_build.proofs.Coding.{code_denotes}
use Rattle.lp_build.proofs.Uncoding.{flat_in}
use Rattle.lp_build.proofs.objects.code_of.Goals as goal

pub returns-in-Err-clause-cause : goal.returns-in-Err-clause-cause
returns-in-Err-clause-cause c = λ within.
    let m = c.args.module.now in
    c.of_flattening.ensures.cause m
    (subst (λ l. IsOver (HasManyIn m.bank l) c.in-Err.refusal) c.as_slice.ensures.value (c.in-Err.ensures.limit (subst (AreWithin m.bank) (sym c.as_slice.ensures.value) within)))

pub returns-in_err-declared-clause-cause : goal.returns-in_err-declared-clause-cause
returns-in_err-declared-clause-cause c = λ within. passed_up c.from_residual.result fault.Memory (IsUncoded c.args.module.now) c.from_residual.ensures.1 (no_space refl)

pub returns-in-Ok-generate-clause-denotes : goal.returns-in-Ok-generate-clause-denotes
returns-in-Ok-generate-clause-denotes c = λ within.
    let m = c.args.module.now in
    let now = c.flattened.new.bank in
    let b = c.declared_of.new.bank in
    let flat = subst (λ l. AreFlat m.bank now l c.in-Ok.clauses.items) c.as_slice.ensures.value
    (c.in-Ok.ensures.flat (subst (AreWithin m.bank) (sym c.as_slice.ensures.value) within)) in
    code_denotes m.bank now b m.signature c.as_slice-2.result.now m.clauses.items c.as_slice-3.result.now c.in-Ok-generate.code.records.items
    (ap (map (scheme_of b)) c.as_slice-2.ensures.value ∙ c.in_ok-declared.ensures.declared)
    (subst (AreFlat m.bank now m.clauses.items) (sym c.as_slice-3.ensures.value) flat) c.in_ok-declared.ensures.kept c.in-Ok-generate.ensures.denotes

pub returns-in-Ok-generate-clause-within : goal.returns-in-Ok-generate-clause-within
returns-in-Ok-generate-clause-within c = λ within.
    let m = c.args.module.now in
    let now = c.flattened.new.bank in
    let b = c.declared_of.new.bank in
    let all = subst (AreWithin m.bank) (sym c.as_slice.ensures.value) within in
    let flat = subst (λ l. AreFlat m.bank now l c.in-Ok.clauses.items) c.as_slice.ensures.value (c.in-Ok.ensures.flat all) in
    record {
      few = subst (HaveFewIn m.bank) c.as_slice.ensures.value (c.in-Ok.ensures.few all);
      bank = b;
      constants = c.as_slice-2.result.now;
      flat = c.as_slice-3.result.now;
      are = flat_in m now b c.as_slice-2.result.now c.as_slice-3.result.now c.flattened.ensures.kept c.in_ok-declared.ensures.kept
          (ap (map (scheme_of b)) c.as_slice-2.ensures.value ∙ c.in_ok-declared.ensures.declared) (subst (AreFlat m.bank now m.clauses.items) (sym c.as_slice-3.ensures.value) flat);
      within = c.in-Ok-generate.ensures.within;
    }

pub returns-clause-cause : goal.returns-clause-cause
returns-clause-cause c = λ within.
    let m = c.args.module.now in
    let now = c.flattened.new.bank in
    let b = c.declared_of.new.bank in
    let flat = subst (λ l. AreFlat m.bank now l c.in-Ok.clauses.items) c.as_slice.ensures.value
    (c.in-Ok.ensures.flat (subst (AreWithin m.bank) (sym c.as_slice.ensures.value) within)) in
    of_limits (subst (HaveFewIn m.bank) c.as_slice.ensures.value (c.in-Ok.ensures.few (subst (AreWithin m.bank) (sym c.as_slice.ensures.value) within))) b c.as_slice-2.result.now c.as_slice-3.result.now c.in-Err-generate.refusal
    (flat_in m now b c.as_slice-2.result.now c.as_slice-3.result.now c.flattened.ensures.kept c.in_ok-declared.ensures.kept
    (ap (map (scheme_of b)) c.as_slice-2.ensures.value ∙ c.in_ok-declared.ensures.declared) (subst (AreFlat m.bank now m.clauses.items) (sym c.as_slice-3.ensures.value) flat))
    c.in-Err-generate.ensures.cause c.of_generator.ensures.same
