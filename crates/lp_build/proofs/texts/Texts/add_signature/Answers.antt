use Rattle.std.proofs.Common.{inl, refl}
use Rattle.lp_build.proofs.Growing.{signature_tree, signature_text_more}
use Rattle.lp_lemmas.proofs.Results.{passed_up}
use Rattle.lp_build.specs.Refused.{IsTextRefused}
use Rattle.lp_build.specs.declared.fault.BuildFault.TheVariants as fault
use Rattle.lp_build.specs.inner.Refusing.{IsTold}
use Rattle.lp_build.proofs.Texting.{signature_told}
use Rattle.lp_build.proofs.texts.Texts.add_signature.Goals as goal

pub returns-clause-texts : goal.returns-clause-texts
returns-clause-texts c = λ files at p lt so.
    signature_text_more files c.args.place c.args.file.now c.in-Ok.text c.args.self.now _ so at p
    (signature_tree c.args.place c.as_number.result c.args.file.now c.as_slice-source.result.now c.as_slice-tokens.result.now c.in-Ok.text
    (c.as_number.ensures.same lt) c.as_slice-source.ensures.value c.as_slice-tokens.ensures.value c.in-Ok.ensures.tree)
    c.in_ok-add.ensures refl

pub returns-in-Err-clause-cause : goal.returns-in-Err-clause-cause
returns-in-Err-clause-cause c = λ files p lt.
    signature_told files c.args.place c.as_number.result c.args.file.now c.as_slice-source.result.now c.as_slice-tokens.result.now c.in-Err.fault c.syntax_fault.result p (c.as_number.ensures.same lt)
    c.as_slice-source.ensures.value c.as_slice-tokens.ensures.value c.in-Err.ensures.fault c.syntax_fault.ensures.same

pub returns-in_err-add-clause-cause : goal.returns-in_err-add-clause-cause
returns-in_err-add-clause-cause c = λ files p lt. passed_up c.from_residual.result fault.Memory (IsTold (IsTextRefused files c.args.place c.args.file.now)) c.from_residual.ensures.1 (inl refl)
