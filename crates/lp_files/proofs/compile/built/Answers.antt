use Rattle.std.proofs.Common.{◌∙◌, refl, subst}
use Rattle.lp_lemmas.proofs.Results.{passed_up}
use Rattle.lp_build.specs.Named.{IsFileNamed}
use Rattle.lp_lines.specs.declared.refusal.Refusal.TheVariants as refusal
use Rattle.lp_files.specs.Uncompiled.{IsUnspelled, no_memory, of_object}
use Rattle.lp_files.proofs.compile.built.Goals as goal

pub returns-in-Ok-clause-compiled : goal.returns-in-Ok-clause-compiled
returns-in-Ok-clause-compiled c = λ read. (
  c.in-Some.number,
  subst (IsFileNamed c.args.sources.now.files.items c.in-Some.number) (c.as_str.ensures.value ∙ c.in_ok-text.ensures) (c.in-Some.ensures read.few),
  c.in-Ok.ensures.compiled read,
)

pub returns-in_err-text-clause-cause : goal.returns-in_err-text-clause-cause
returns-in_err-text-clause-cause c = λ read. passed_up c.from_residual.result refusal.Memory (IsUnspelled c.args.sources.now c.args.name.now) c.from_residual.ensures.1 (no_memory refl)

pub returns-in_default-clause-cause : goal.returns-in_default-clause-cause
returns-in_default-clause-cause c = λ read. no_memory refl

pub returns-clause-cause : goal.returns-clause-cause
returns-clause-cause c = λ read. of_object c.in-Some.number c.in-Err.fault c.cause_of.result
    (subst (IsFileNamed c.args.sources.now.files.items c.in-Some.number) (c.as_str.ensures.value ∙ c.in_ok-text.ensures) (c.in-Some.ensures read.few))
    (c.in-Err.ensures.cause read) c.cause_of.ensures.tells c.text_refused.ensures.says
