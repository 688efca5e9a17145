use Rattle.std.proofs.Common.{refl, subst}
use Rattle.lp_code.specs.Naming.{object_tables}
use Rattle.lp_files.specs.Said.{TellsMisnamed, TellsMisread, TellsRejected}
use Rattle.lp_files.specs.Unopened.{broken_object, no_object, other_object}
use Rattle.lp_files.proofs.Lengths.{object_short}
use Rattle.lp_files.proofs.Unopening.{broken_is}
use Rattle.lp_files.proofs.open.judged_object.Goals as goal

pub returns-in-Err-clause-cause : goal.returns-in-Err-clause-cause
returns-in-Err-clause-cause c =
    no_object c.in-Err.fault c.in-Err.ensures.exact (subst (λ f. TellsMisread f c.in-Err.fault c.misread.result) c.as_bytes.ensures.value c.misread.ensures.says)

pub returns-then-not-is_named-clause-cause : goal.returns-then-not-is_named-clause-cause
returns-then-not-is_named-clause-cause c =
    other_object c.in-Ok.object c.in-Ok.ensures.found.2 (c.if-not-is_named.ensures.other refl)
    (subst (λ f. TellsMisnamed f c.said_of.result) c.as_bytes-then-not-is_named.ensures.value c.said_of.ensures.says)

pub returns-in-Err-verify_object-clause-cause : goal.returns-in-Err-verify_object-clause-cause
returns-in-Err-verify_object-clause-cause c =
    let o = c.in-Ok.object in
    let e = c.in-Err-verify_object.refusal in
    broken_object o e c.in-Ok.ensures.found.2 (c.if-not-is_named.ensures.named refl)
    (broken_is (Unit {0}) (object_tables o) o.code.records.items e (c.in-Err-verify_object.ensures.told (object_short o c.in-Ok.ensures.found.1)))
    (subst (λ f. TellsRejected f e c.rejected.result) c.as_bytes-in-Err-verify_object.ensures.value c.rejected.ensures.says)

pub returns-in-Ok-verify_object-clause-denotes : goal.returns-in-Ok-verify_object-clause-denotes
returns-in-Ok-verify_object-clause-denotes c = (c.in-Ok-verify_object.ensures.told (object_short c.in-Ok.object c.in-Ok.ensures.found.1)).1
