use Rattle.std.proofs.Common.{◌∙◌, Err, refl, subst, sym}
use Rattle.lp_base.specs.declared.limit.Limit.TheVariants as limit
use Rattle.lp_base.specs.declared.limits.TheConstants.{MAX_IMAGE_BYTES}
use Rattle.lp_lemmas.proofs.Results.{passed_up}
use Rattle.lp_build.specs.Told.{IsTold}
use Rattle.lp_lines.specs.Looked.{Found}
use Rattle.lp_lines.specs.declared.refusal.Refusal.TheVariants as refusal
use Rattle.lp_lines.proofs.Looking.{looked_judged}
use Rattle.lp_files.specs.Unopened.{IsUnopenedObject, no_memory, of_file}
use Rattle.lp_files.proofs.Unopening.{object_misread}
use Rattle.lp_files.proofs.Linking.{object_held}
use Rattle.lp_files.proofs.open.open_object.Goals as goal

pub returns-clause-looked : goal.returns-clause-looked
returns-clause-looked g c = looked_judged c.judged_object.result c.in_ok-bytes.ensures.looked c.judged_object.ensures.judged

pub returns-clause-held : goal.returns-clause-held
returns-clause-held g c =
    object_held (g.F.Folder.held c.args.folder.now) c.args.name.now c.as_str.result.now c.as_slice.result.now c.in_ok-bytes.bytes.items c.judged_object.result
    (c.as_str.ensures.value ∙ c.in_ok-file.ensures) c.as_slice.ensures.value c.in_ok-bytes.ensures.there c.judged_object.ensures.named c.judged_object.ensures.spelled c.judged_object.ensures.denotes

pub returns-in_err-file-clause-cause : goal.returns-in_err-file-clause-cause
returns-in_err-file-clause-cause g c = passed_up c.from_residual.result refusal.Memory (IsUnopenedObject (g.F.Folder.held c.args.folder.now) c.args.name.now) c.from_residual.ensures.1 (no_memory refl)

pub returns-in_err-bytes-clause-cause : goal.returns-in_err-bytes-clause-cause
returns-in_err-bytes-clause-cause g c =
    let held = g.F.Folder.held c.args.folder.now in
    passed_up c.from_residual-in_err-bytes.result c.in_err-bytes.field-0.0 (IsUnopenedObject held c.args.name.now) c.from_residual-in_err-bytes.ensures.1
    (of_file (subst (λ f. Found f MAX_IMAGE_BYTES limit.Image held (Err c.in_err-bytes.field-0.0)) (c.as_str.ensures.value ∙ c.in_ok-file.ensures) c.in_err-bytes.ensures.unread))

pub returns-clause-cause : goal.returns-clause-cause
returns-clause-cause g c =
    let held = g.F.Folder.held c.args.folder.now in
    object_misread held c.args.name.now c.as_str-2.result.now c.as_slice.result.now c.in_ok-bytes.bytes.items c.judged_object.result
    (c.as_str-2.ensures.value ∙ c.in_ok-file.ensures) c.as_slice.ensures.value
    (subst (λ f. IsTold held f c.in_ok-bytes.bytes.items) (c.as_str.ensures.value ∙ sym c.as_str-2.ensures.value) c.in_ok-bytes.ensures.there) c.judged_object.ensures.cause
