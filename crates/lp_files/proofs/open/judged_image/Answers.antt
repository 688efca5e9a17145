use Rattle.std.proofs.Common.{refl, subst, sym}
use Rattle.lp_code.specs.Naming.{image_tables}
use Rattle.lp_object.specs.Plain.{plain_image}
use Rattle.lp_object.specs.Spellable.{SpellsImage}
use Rattle.lp_verify.specs.declared.judging.Verified.{Verified}
use Rattle.lp_files.specs.Said.{TellsMisnamed, TellsMisread, TellsRejected}
use Rattle.lp_files.specs.Unopened.{broken_image, no_image, other_image}
use Rattle.lp_files.proofs.Lengths.{image_short}
use Rattle.lp_files.proofs.Unopening.{broken_is}
use Rattle.lp_files.proofs.open.judged_image.Goals as goal

pub returns-in-Ok-verify-clause-spelled : goal.returns-in-Ok-verify-clause-spelled
returns-in-Ok-verify-clause-spelled c = subst (λ x. SpellsImage (plain_image x) c.args.bytes.now) (sym c.in-Ok-verify.ensures.image) c.in-Ok.ensures.found.1

pub returns-in-Err-clause-cause : goal.returns-in-Err-clause-cause
returns-in-Err-clause-cause c =
    no_image c.in-Err.fault c.in-Err.ensures.exact (subst (λ f. TellsMisread f c.in-Err.fault c.misread.result) c.as_bytes.ensures.value c.misread.ensures.says)

pub returns-then-not-is_of-clause-cause : goal.returns-then-not-is_of-clause-cause
returns-then-not-is_of-clause-cause c =
    other_image c.in-Ok.image c.in-Ok.ensures.found.1 (c.if-not-is_of.ensures.other refl)
    (subst (λ f. TellsMisnamed f c.said_of.result) c.as_bytes-then-not-is_of.ensures.value c.said_of.ensures.says)

pub returns-in-Err-verify-clause-cause : goal.returns-in-Err-verify-clause-cause
returns-in-Err-verify-clause-cause c =
    let i = c.in-Ok.image in
    let e = c.in-Err-verify.refusal in
    broken_image i e c.in-Ok.ensures.found.1 (c.if-not-is_of.ensures.named refl)
    (broken_is Verified (image_tables i) i.code.records.items e (c.in-Err-verify.ensures.told (image_short i c.args.bytes.now c.in-Ok.ensures.found.1)))
    (subst (λ f. TellsRejected f e c.rejected.result) c.as_bytes-in-Err-verify.ensures.value c.rejected.ensures.says)
