use Rattle.std.proofs.Common.{inl, refl}
use Rattle.lp_fixity.specs.Table.{entry_of}
use Rattle.lp_build.proofs.Growing.{module_tree, module_text_more}
use Rattle.lp_lemmas.proofs.Results.{passed_up}
use Rattle.lp_build.specs.Refused.{IsTextRefused}
use Rattle.lp_build.specs.declared.fault.BuildFault.TheVariants as fault
use Rattle.lp_build.specs.inner.Refusing.{IsTold}
use Rattle.lp_build.proofs.Texting.{module_told, operators_told}
use Rattle.lp_build.proofs.texts.Texts.add_module.Goals as goal

pub returns-clause-texts : goal.returns-clause-texts
returns-clause-texts c = λ at p lt links so.
    module_text_more c.args.sources.now.files.items c.args.place c.args.file.now c.in-Ok.text c.args.self.now _ so at p
    (module_tree c.args.sources.now.files.items c.args.place c.as_number.result c.args.file.now c.as_str.result.now c.as_slice-source.result.now
    c.as_slice-tokens.result.now (entry_of c.in_ok-table.table) (entry_of c.module_text.new.table) c.in-Ok.text (c.as_number.ensures.same lt)
    c.as_str.ensures.value c.as_slice-source.ensures.value c.as_slice-tokens.ensures.value (c.in_ok-table.ensures.force links)
    c.in-Ok.ensures.tree)
    c.in_ok-add.ensures refl

pub returns-in_err-table-clause-cause : goal.returns-in_err-table-clause-cause
returns-in_err-table-clause-cause c = λ p lt links.
    passed_up c.from_residual.result c.in_err-table.field-0.0 (IsTold (IsTextRefused c.args.sources.now.files.items c.args.place c.args.file.now)) c.from_residual.ensures.1
    (operators_told c.args.sources.now.files.items c.args.place c.args.file.now c.as_str.result.now c.in_err-table.field-0.0 p c.as_str.ensures.value (c.in_err-table.ensures.cause links))

pub returns-in-Err-clause-cause : goal.returns-in-Err-clause-cause
returns-in-Err-clause-cause c = λ p lt links.
    module_told c.args.sources.now.files.items c.args.place c.as_number.result c.args.file.now c.as_str.result.now c.as_slice-source.result.now
    c.as_slice-tokens.result.now (entry_of c.in_ok-table.table)
    c.in-Err.fault c.syntax_fault.result p (c.as_number.ensures.same lt) c.as_str.ensures.value c.as_slice-source.ensures.value c.as_slice-tokens.ensures.value (c.in_ok-table.ensures.force links)
    c.in-Err.ensures.fault c.syntax_fault.ensures.same

pub returns-in_err-add-clause-cause : goal.returns-in_err-add-clause-cause
returns-in_err-add-clause-cause c = λ p lt links.
    passed_up c.from_residual-in_err-add.result fault.Memory (IsTold (IsTextRefused c.args.sources.now.files.items c.args.place c.args.file.now)) c.from_residual-in_err-add.ensures.1 (inl refl)
