use Rattle.std.proofs.Common.{◌≤◌, length, refl, arith}
use Rattle.std.specs.Prelude.{◌^◌}
use Rattle.lp_lemmas.proofs.Results.{passed_up}
use Rattle.lp_build.specs.Refused.{IsRefusedWhole, no_memory}
use Rattle.lp_build.specs.declared.fault.BuildFault.TheVariants as fault
use Rattle.lp_build.proofs.Causing.{signatures_layer, text_layer}
use Rattle.lp_build.proofs.Growing.{few_texts}
use Rattle.lp_build.proofs.build.whole_of.Goals as goal

pub returns-clause-whole : goal.returns-clause-whole
returns-clause-whole c = λ read.
    let texts = c.in_ok-texts.ensures.texts read.few c.in_ok-links.ensures in
    let count = few_texts texts.signatures in
    let few = read.few in
    let low : length c.in_ok-texts.texts.signatures.texts.items ≤ 2 ^ 32 = omega (arith, count, few) in
    record { links = c.in_ok-links.ensures; texts = texts; declared = c.in_ok-signatures.ensures.declared low; every = c.in_ok-signatures.ensures.every low }

pub returns-in_err-links-clause-cause : goal.returns-in_err-links-clause-cause
returns-in_err-links-clause-cause c = λ read. passed_up c.from_residual.result fault.Memory (IsRefusedWhole c.args.sources.now) c.from_residual.ensures.1 (no_memory refl)

pub returns-in_err-texts-clause-cause : goal.returns-in_err-texts-clause-cause
returns-in_err-texts-clause-cause c = λ read.
    passed_up c.from_residual-in_err-texts.result c.in_err-texts.field-0.0 (IsRefusedWhole c.args.sources.now) c.from_residual-in_err-texts.ensures.1
    (text_layer c.args.sources.now c.in_err-texts.field-0.0 (c.in_err-texts.ensures.cause read.few c.in_ok-links.ensures))

pub returns-in_err-signatures-clause-cause : goal.returns-in_err-signatures-clause-cause
returns-in_err-signatures-clause-cause c = λ read.
    let texts = c.in_ok-texts.ensures.texts read.few c.in_ok-links.ensures in
    let count = few_texts texts.signatures in
    let few = read.few in
    let low : length c.in_ok-texts.texts.signatures.texts.items ≤ 2 ^ 32 = omega (arith, count, few) in
    passed_up c.from_residual-in_err-signatures.result c.in_err-signatures.field-0.0 (IsRefusedWhole c.args.sources.now) c.from_residual-in_err-signatures.ensures.1
    (signatures_layer c.args.sources.now c.in_ok-texts.texts c.in_err-signatures.field-0.0 texts (c.in_err-signatures.ensures.cause low))
