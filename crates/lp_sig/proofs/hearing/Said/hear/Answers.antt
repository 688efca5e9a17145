use Rattle.std.proofs.Common.{◌++◌, ◌∙◌, map, refl, ap, sym, subst}
use Rattle.std.proofs.lemmas.Result.{on_ok_weaker}
use Rattle.lp_lemmas.proofs.Results.{on_ok_always}
use Rattle.lp_sig.specs.Pieces.{spelled}
use Rattle.lp_sig.specs.Modules.{constant_names_by}
use Rattle.lp_sig.specs.ModuleFaults.{kind_names_by}
use Rattle.lp_sig.specs.Sights.{HasKeys, signature_words, module_words}
use Rattle.lp_sig.proofs.Refusing.{no_keys, local_kind_names, local_constant_names}
use Rattle.lp_sig.proofs.Sights.{nothing_heard, more_modules, more_signatures}
use Rattle.lp_sig.proofs.hearing.Said.hear.Goals as goal

pub returns-in-Kinds-clause-signatures : goal.returns-in-Kinds-clause-signatures
returns-in-Kinds-clause-signatures c = on_ok_always c.note.result _ (nothing_heard c.args.self.now.accum_sigs signature_words c.args.source.now c.args.declaration.now _ c.in-Kinds.is refl)

pub returns-in-Kinds-clause-modules : goal.returns-in-Kinds-clause-modules
returns-in-Kinds-clause-modules c = on_ok_always c.note.result _ (nothing_heard c.args.self.now.accumulates module_words c.args.source.now c.args.declaration.now _ c.in-Kinds.is refl)

pub returns-in-LocalKinds-clause-signatures : goal.returns-in-LocalKinds-clause-signatures
returns-in-LocalKinds-clause-signatures c = on_ok_always c.note_if.result _ (nothing_heard c.args.self.now.accum_sigs signature_words
    c.args.source.now c.args.declaration.now _ c.in-LocalKinds.is refl)

pub returns-in-LocalKinds-clause-modules : goal.returns-in-LocalKinds-clause-modules
returns-in-LocalKinds-clause-modules c = on_ok_always c.note_if.result _ (nothing_heard c.args.self.now.accumulates module_words c.args.source.now c.args.declaration.now _ c.in-LocalKinds.is refl)

pub returns-in-Constants-clause-signatures : goal.returns-in-Constants-clause-signatures
returns-in-Constants-clause-signatures c = on_ok_always c.note-in-Constants.result _
    (nothing_heard c.args.self.now.accum_sigs signature_words c.args.source.now c.args.declaration.now _ c.in-Constants.is refl)

pub returns-in-Constants-clause-modules : goal.returns-in-Constants-clause-modules
returns-in-Constants-clause-modules c = on_ok_always c.note-in-Constants.result _ (nothing_heard c.args.self.now.accumulates module_words
    c.args.source.now c.args.declaration.now _ c.in-Constants.is refl)

pub returns-in-Locals-clause-signatures : goal.returns-in-Locals-clause-signatures
returns-in-Locals-clause-signatures c = on_ok_always c.note_if-in-Locals.result _ (nothing_heard c.args.self.now.accum_sigs signature_words
    c.args.source.now c.args.declaration.now _ c.in-Locals.is refl)

pub returns-in-Locals-clause-modules : goal.returns-in-Locals-clause-modules
returns-in-Locals-clause-modules c = on_ok_always c.note_if-in-Locals.result _ (nothing_heard c.args.self.now.accumulates module_words c.args.source.now c.args.declaration.now _ c.in-Locals.is refl)

pub returns-in-Abbreviation-clause-signatures : goal.returns-in-Abbreviation-clause-signatures
returns-in-Abbreviation-clause-signatures c = nothing_heard c.args.self.now.accum_sigs signature_words c.args.source.now c.args.declaration.now _ c.in-Abbreviation.is refl

pub returns-in-Abbreviation-clause-modules : goal.returns-in-Abbreviation-clause-modules
returns-in-Abbreviation-clause-modules c = nothing_heard c.args.self.now.accumulates module_words c.args.source.now c.args.declaration.now _ c.in-Abbreviation.is refl

pub returns-in-Fixities-clause-signatures : goal.returns-in-Fixities-clause-signatures
returns-in-Fixities-clause-signatures c = nothing_heard c.args.self.now.accum_sigs signature_words c.args.source.now c.args.declaration.now _ c.in-Fixities.is refl

pub returns-in-Fixities-clause-modules : goal.returns-in-Fixities-clause-modules
returns-in-Fixities-clause-modules c = nothing_heard c.args.self.now.accumulates module_words c.args.source.now c.args.declaration.now _ c.in-Fixities.is refl

pub returns-in-Accumulate-clause-signatures : goal.returns-in-Accumulate-clause-signatures
returns-in-Accumulate-clause-signatures c = on_ok_always c.number.result _ (nothing_heard c.args.self.now.accum_sigs signature_words c.args.source.now c.args.declaration.now _ c.in-Accumulate.is refl)

pub returns-in-Accumulate-clause-modules : goal.returns-in-Accumulate-clause-modules
returns-in-Accumulate-clause-modules c = on_ok_weaker c.number.result (λ f before h. more_modules c.number.new.numbers c.args.source.now
    c.args.declaration.now _ _ c.in-Accumulate.is c.as_slice-in-Accumulate.ensures.value before (f before h)) c.number.ensures

pub returns-in-AccumSig-clause-signatures : goal.returns-in-AccumSig-clause-signatures
returns-in-AccumSig-clause-signatures c = on_ok_weaker c.number-in-AccumSig.result (λ f before h. more_signatures c.number-in-AccumSig.new.numbers
    c.args.source.now c.args.declaration.now _ _ c.in-AccumSig.is c.as_slice-in-AccumSig.ensures.value before (f before h))
    c.number-in-AccumSig.ensures

pub returns-in-AccumSig-clause-modules : goal.returns-in-AccumSig-clause-modules
returns-in-AccumSig-clause-modules c = on_ok_always c.number-in-AccumSig.result _ (nothing_heard c.args.self.now.accumulates module_words
    c.args.source.now c.args.declaration.now _ c.in-AccumSig.is refl)

pub returns-in-Constants-clause-kinds : goal.returns-in-Constants-clause-kinds
returns-in-Constants-clause-kinds c = on_ok_always c.note-in-Constants.result _ (λ before h. no_keys c.args.self.now.kinds before _ (ap (kind_names_by c.args.source.now) c.in-Constants.is) h)

pub returns-in-Locals-clause-kinds : goal.returns-in-Locals-clause-kinds
returns-in-Locals-clause-kinds c = on_ok_always c.note_if-in-Locals.result _ (λ before h. no_keys c.args.self.now.kinds before _ (ap (kind_names_by c.args.source.now) c.in-Locals.is) h)

pub returns-in-Abbreviation-clause-kinds : goal.returns-in-Abbreviation-clause-kinds
returns-in-Abbreviation-clause-kinds c = λ before h. no_keys c.args.self.now.kinds before _ (ap (kind_names_by c.args.source.now) c.in-Abbreviation.is) h

pub returns-in-Accumulate-clause-kinds : goal.returns-in-Accumulate-clause-kinds
returns-in-Accumulate-clause-kinds c = on_ok_always c.number.result _ (λ before h. no_keys c.args.self.now.kinds before _ (ap (kind_names_by c.args.source.now) c.in-Accumulate.is) h)

pub returns-in-AccumSig-clause-kinds : goal.returns-in-AccumSig-clause-kinds
returns-in-AccumSig-clause-kinds c = on_ok_always c.number-in-AccumSig.result _ (λ before h. no_keys c.args.self.now.kinds before _ (ap (kind_names_by c.args.source.now) c.in-AccumSig.is) h)

pub returns-in-Fixities-clause-kinds : goal.returns-in-Fixities-clause-kinds
returns-in-Fixities-clause-kinds c = λ before h. no_keys c.args.self.now.kinds before _ (ap (kind_names_by c.args.source.now) c.in-Fixities.is) h

pub returns-in-Kinds-clause-constants : goal.returns-in-Kinds-clause-constants
returns-in-Kinds-clause-constants c = on_ok_always c.note.result _ (λ before h. no_keys c.args.self.now.constants before _ (ap (constant_names_by c.args.source.now) c.in-Kinds.is) h)

pub returns-in-LocalKinds-clause-constants : goal.returns-in-LocalKinds-clause-constants
returns-in-LocalKinds-clause-constants c = on_ok_always c.note_if.result _ (λ before h. no_keys c.args.self.now.constants before _ (ap (constant_names_by c.args.source.now) c.in-LocalKinds.is) h)

pub returns-in-Abbreviation-clause-constants : goal.returns-in-Abbreviation-clause-constants
returns-in-Abbreviation-clause-constants c = λ before h. no_keys c.args.self.now.constants before _ (ap (constant_names_by c.args.source.now) c.in-Abbreviation.is) h

pub returns-in-Accumulate-clause-constants : goal.returns-in-Accumulate-clause-constants
returns-in-Accumulate-clause-constants c = on_ok_always c.number.result _ (λ before h. no_keys c.args.self.now.constants before _ (ap (constant_names_by c.args.source.now) c.in-Accumulate.is) h)

pub returns-in-AccumSig-clause-constants : goal.returns-in-AccumSig-clause-constants
returns-in-AccumSig-clause-constants c = on_ok_always c.number-in-AccumSig.result _
    (λ before h. no_keys c.args.self.now.constants before _ (ap (constant_names_by c.args.source.now) c.in-AccumSig.is) h)

pub returns-in-Fixities-clause-constants : goal.returns-in-Fixities-clause-constants
returns-in-Fixities-clause-constants c = λ before h. no_keys c.args.self.now.constants before _ (ap (constant_names_by c.args.source.now) c.in-Fixities.is) h

pub returns-in-Kinds-clause-kinds : goal.returns-in-Kinds-clause-kinds
returns-in-Kinds-clause-kinds c = on_ok_weaker c.note.result (λ f before h. subst (λ ws. HasKeys c.note.new.set (before ++ ws))
    (ap (map (λ s. spelled c.args.source.now s)) c.as_slice.ensures.value ∙ ap (kind_names_by c.args.source.now) (sym c.in-Kinds.is)) (f before h))
    c.note.ensures

pub returns-in-Constants-clause-constants : goal.returns-in-Constants-clause-constants
returns-in-Constants-clause-constants c = on_ok_weaker c.note-in-Constants.result (λ f before h. subst
    (λ ws. HasKeys c.note-in-Constants.new.set (before ++ ws)) (ap (map (λ s. spelled c.args.source.now s)) c.as_slice-in-Constants.ensures.value ∙ ap
    (constant_names_by c.args.source.now) (sym c.in-Constants.is)) (f before h)) c.note-in-Constants.ensures

pub returns-in-LocalKinds-clause-kinds : goal.returns-in-LocalKinds-clause-kinds
returns-in-LocalKinds-clause-kinds c = on_ok_weaker c.note_if.result (λ f before h. subst (λ ws. HasKeys c.note_if.new.set (before ++ ws))
    (local_kind_names c.args.source.now c.in-LocalKinds.names c.as_slice-in-LocalKinds.result.now c.in-LocalKinds.count c.is_some-is_declared.result
    c.as_slice-in-LocalKinds.ensures.value c.is_some-is_declared.ensures ∙ ap (kind_names_by c.args.source.now) (sym c.in-LocalKinds.is))
    (f before h)) c.note_if.ensures

pub returns-in-Locals-clause-constants : goal.returns-in-Locals-clause-constants
returns-in-Locals-clause-constants c = on_ok_weaker c.note_if-in-Locals.result (λ f before h. subst
    (λ ws. HasKeys c.note_if-in-Locals.new.set (before ++ ws)) (local_constant_names c.args.source.now c.in-Locals.names
    c.as_slice-in-Locals.result.now c.in-Locals.raw c.is_some-is_declared-in-Locals.result c.as_slice-in-Locals.ensures.value
    c.is_some-is_declared-in-Locals.ensures ∙ ap (constant_names_by c.args.source.now) (sym c.in-Locals.is)) (f before h)) c.note_if-in-Locals.ensures
