use Rattle.lp_sig.specs.AsWritten.{typed_locals}
use Rattle.lp_sig.specs.Constants.{written_in}
use Rattle.lp_sig.proofs.Reading.{its_types, reads_same, reads_none}
use Rattle.std.proofs.Common.{◌≡◌, ◌≤◌, [], refl, sym, ap, subst, map, inl, inr, ⊎_elim}
use Rattle.std.proofs.lemmas.Result.{on_ok_weaker}
use Rattle.lp_lemmas.proofs.Results.{on_ok_always}
use Rattle.lp_sig.specs.Pieces.{spelled}
use Rattle.lp_sig.specs.Modules.{local_names}
use Rattle.lp_sig.specs.Worded.{HasWords}
use Rattle.lp_sig.proofs.Sayings.{no_words, its_words}
use Rattle.lp_sig.proofs.KnownConstants.{making_same}
use Rattle.lp_sig.proofs.Sights.{none_words, its_modules, its_signatures}
use Rattle.std.proofs.lemmas.Result.{IfErr-weaker, IfOk-weaker}
use Rattle.lp_base.specs.declared.limits.TheConstants.{MAX_ARGUMENTS}
use Rattle.lp_sig.specs.Said.{a_kind, each}
use Rattle.lp_sig.specs.Limits.{AreShort}
use Rattle.lp_sig.specs.Faults.{IsSoundAbbreviation}
use Rattle.lp_sig.specs.Words.{IsKindsFault, AreMeant, AreNumbered, IsSoundType}
use Rattle.lp_sig.specs.Modules.{constant_names_in}
use Rattle.lp_sig.specs.ModuleFaults.{exports_kind, exports_constant, blamed_by, kind_names_in, AreLocalKindsRefused, AreLocalKindsTaken, AreConstantsWrong, AreLocalsRefused, AreLocalsTaken, IsAbbreviationWrong, AreModulesRefused, AreModulesTaken, AreSignaturesRefused, AreSignaturesTaken, IsLineFault, IsLineTaken}
use Rattle.lp_sig.specs.declared.fault.SigFault.{SigFault}
use Rattle.lp_sig.specs.Differing.{HasNameCause, HasTypeCause, IsOtherBodyIf}
use Rattle.lp_sig.specs.ModuleFaults.{HaveLocalsCause, HaveLocalsTypeCause, HasLineCause, HasLineTypeCause}
use Rattle.lp_sig.proofs.Taking.{err_with, its_taken, takes_same, takes_none}
use Rattle.lp_sig.proofs.module_lines.ModuleLines.declare.Goals as goal

pub returns-in-Kinds-clause-words : goal.returns-in-Kinds-clause-words
returns-in-Kinds-clause-words c = on_ok_always c.kinds.result _ (no_words c.args.making.now.constants c.args.self.now.source.now c.args.declaration.now _ c.in-Kinds.is refl)

pub returns-in-LocalKinds-clause-words : goal.returns-in-LocalKinds-clause-words
returns-in-LocalKinds-clause-words c = on_ok_always c.local_kinds_of.result _ (no_words c.args.making.now.constants c.args.self.now.source.now c.args.declaration.now _ c.in-LocalKinds.is refl)

pub returns-in-Accumulate-clause-words : goal.returns-in-Accumulate-clause-words
returns-in-Accumulate-clause-words c = on_ok_always c.accumulate.result _ (no_words c.args.making.now.constants c.args.self.now.source.now c.args.declaration.now _ c.in-Accumulate.is refl)

pub returns-in-AccumSig-clause-words : goal.returns-in-AccumSig-clause-words
returns-in-AccumSig-clause-words c = on_ok_always c.accum_sig.result _ (no_words c.args.making.now.constants c.args.self.now.source.now c.args.declaration.now _ c.in-AccumSig.is refl)

pub returns-in-Abbreviation-clause-words : goal.returns-in-Abbreviation-clause-words
returns-in-Abbreviation-clause-words c = on_ok_always c.abbreviation.result _ (λ words h. no_words c.abbreviation.new.making.constants
    c.args.self.now.source.now c.args.declaration.now _ c.in-Abbreviation.is refl words
    (subst (λ k. HasWords k words) (sym c.abbreviation.ensures.constants) h))

pub returns-in-Fixities-clause-words : goal.returns-in-Fixities-clause-words
returns-in-Fixities-clause-words c = no_words c.args.making.now.constants c.args.self.now.source.now c.args.declaration.now _ c.in-Fixities.is refl

pub returns-in-Constants-clause-words : goal.returns-in-Constants-clause-words
returns-in-Constants-clause-words c = on_ok_weaker c.constants.result (λ f words h. its_words c.constants.new.making.constants
    c.args.self.now.source.now c.args.declaration.now _ _ c.in-Constants.is (ap (map (λ s. spelled c.args.self.now.source.now s))
    c.as_slice-in-Constants.ensures.value) words (f words h)) c.constants.ensures.words

pub returns-in-Locals-clause-words : goal.returns-in-Locals-clause-words
returns-in-Locals-clause-words c = on_ok_weaker c.locals_typed.result (λ f words h. its_words c.locals_typed.new.making.constants
    c.args.self.now.source.now c.args.declaration.now _ _ c.in-Locals.is (ap (λ ns. local_names c.args.self.now.source.now ns c.in-Locals.raw)
    c.as_slice-in-Locals.ensures.value) words (f words h)) c.locals_typed.ensures.words

pub returns-in-Kinds-clause-grown : goal.returns-in-Kinds-clause-grown
returns-in-Kinds-clause-grown c = on_ok_always c.kinds.result _ (making_same c.args.making.now)

pub returns-in-LocalKinds-clause-grown : goal.returns-in-LocalKinds-clause-grown
returns-in-LocalKinds-clause-grown c = on_ok_always c.local_kinds_of.result _ (making_same c.args.making.now)

pub returns-in-Accumulate-clause-grown : goal.returns-in-Accumulate-clause-grown
returns-in-Accumulate-clause-grown c = on_ok_always c.accumulate.result _ (making_same c.args.making.now)

pub returns-in-AccumSig-clause-grown : goal.returns-in-AccumSig-clause-grown
returns-in-AccumSig-clause-grown c = on_ok_always c.accum_sig.result _ (making_same c.args.making.now)

pub returns-in-Abbreviation-clause-grown : goal.returns-in-Abbreviation-clause-grown
returns-in-Abbreviation-clause-grown c = c.abbreviation.ensures.grown

pub returns-in-Constants-clause-grown : goal.returns-in-Constants-clause-grown
returns-in-Constants-clause-grown c = c.constants.ensures.grown

pub returns-in-Locals-clause-grown : goal.returns-in-Locals-clause-grown
returns-in-Locals-clause-grown c = c.locals_typed.ensures.grown

pub returns-in-Fixities-clause-grown : goal.returns-in-Fixities-clause-grown
returns-in-Fixities-clause-grown c = making_same c.args.making.now

pub returns-in-Kinds-clause-alike : goal.returns-in-Kinds-clause-alike
returns-in-Kinds-clause-alike c = on_ok_always c.kinds.result _ (λ signatures modules h k. none_words c.args.self.now.sights.now
    c.args.self.now.source.now signatures modules c.args.declaration.now _ c.in-Kinds.is refl refl)

pub returns-in-LocalKinds-clause-alike : goal.returns-in-LocalKinds-clause-alike
returns-in-LocalKinds-clause-alike c = on_ok_always c.local_kinds_of.result _ (λ signatures modules h k. none_words c.args.self.now.sights.now
    c.args.self.now.source.now signatures modules c.args.declaration.now _ c.in-LocalKinds.is refl refl)

pub returns-in-Abbreviation-clause-alike : goal.returns-in-Abbreviation-clause-alike
returns-in-Abbreviation-clause-alike c = on_ok_always c.abbreviation.result _ (λ signatures modules h k. none_words c.args.self.now.sights.now
    c.args.self.now.source.now signatures modules c.args.declaration.now _ c.in-Abbreviation.is refl refl)

pub returns-in-Constants-clause-alike : goal.returns-in-Constants-clause-alike
returns-in-Constants-clause-alike c = on_ok_always c.constants.result _ (λ signatures modules h k. none_words c.args.self.now.sights.now
    c.args.self.now.source.now signatures modules c.args.declaration.now _ c.in-Constants.is refl refl)

pub returns-in-Locals-clause-alike : goal.returns-in-Locals-clause-alike
returns-in-Locals-clause-alike c = on_ok_always c.locals_typed.result _ (λ signatures modules h k. none_words c.args.self.now.sights.now
    c.args.self.now.source.now signatures modules c.args.declaration.now _ c.in-Locals.is refl refl)

pub returns-in-Fixities-clause-alike : goal.returns-in-Fixities-clause-alike
returns-in-Fixities-clause-alike c = λ signatures modules h k. none_words c.args.self.now.sights.now c.args.self.now.source.now signatures modules c.args.declaration.now _ c.in-Fixities.is refl refl

pub returns-in-Accumulate-clause-alike : goal.returns-in-Accumulate-clause-alike
returns-in-Accumulate-clause-alike c = on_ok_weaker c.accumulate.result (λ f signatures modules h k.
    its_modules c.args.self.now.sights.now c.args.self.now.source.now signatures modules c.args.declaration.now _ _ c.in-Accumulate.is
    c.as_slice-in-Accumulate.ensures.value (f signatures modules h k)) c.accumulate.ensures.alike

pub returns-in-AccumSig-clause-alike : goal.returns-in-AccumSig-clause-alike
returns-in-AccumSig-clause-alike c = on_ok_weaker c.accum_sig.result (λ f signatures modules h k.
    its_signatures c.args.self.now.sights.now c.args.self.now.source.now signatures modules c.args.declaration.now _ _ c.in-AccumSig.is
    c.as_slice-in-AccumSig.ensures.value (f signatures h)) c.accum_sig.ensures.alike

pub returns-in-Kinds-clause-refused : goal.returns-in-Kinds-clause-refused
returns-in-Kinds-clause-refused c = λ used z ds given k u hk hc. IfErr-weaker c.kinds.result _ _
    (λ e f. inr (subst (λ d. IsLineFault c.args.self.now.own.now used c.args.self.now.source.now z ds d e) (sym c.in-Kinds.is)
    (subst (λ ns. (f : SigFault) × IsKindsFault c.args.self.now.source.now z.said ns c.in-Kinds.arity f ×
    (e ≡ blamed_by (exports_kind c.args.self.now.own.now) c.args.self.now.source.now f)) c.as_slice.ensures.value f)))
    (c.kinds.ensures.refused z.said k)

pub returns-in-Kinds-clause-taken : goal.returns-in-Kinds-clause-taken
returns-in-Kinds-clause-taken c = λ used z ds given k u hk hc. IfOk-weaker c.kinds.result _ _
    (λ done t. subst (λ d. IsLineTaken c.args.self.now.own.now used c.args.self.now.source.now z ds d) (sym c.in-Kinds.is)
    (subst (λ ns. AreMeant c.args.self.now.source.now z.said (a_kind c.in-Kinds.arity) ns × AreNumbered c.args.self.now.source.now z.said ns ×
    (c.in-Kinds.arity ≤ MAX_ARGUMENTS)) c.as_slice.ensures.value t)) (c.kinds.ensures.taken z.said k)

pub returns-in-LocalKinds-clause-refused : goal.returns-in-LocalKinds-clause-refused
returns-in-LocalKinds-clause-refused c = λ used z ds given k u hk hc. IfErr-weaker c.local_kinds_of.result _ _
    (λ e f. inr (subst (λ d. IsLineFault c.args.self.now.own.now used c.args.self.now.source.now z ds d e) (sym c.in-LocalKinds.is)
    (subst (λ ns. AreLocalKindsRefused c.args.self.now.own.now c.args.self.now.source.now z.said (kind_names_in c.args.self.now.source.now ds) ns
    c.in-LocalKinds.count e) c.as_slice-in-LocalKinds.ensures.value f))) (c.local_kinds_of.ensures.refused z.said
    (kind_names_in c.args.self.now.source.now ds) k hk)

pub returns-in-LocalKinds-clause-taken : goal.returns-in-LocalKinds-clause-taken
returns-in-LocalKinds-clause-taken c = λ used z ds given k u hk hc. IfOk-weaker c.local_kinds_of.result _ _
    (λ done t. subst (λ d. IsLineTaken c.args.self.now.own.now used c.args.self.now.source.now z ds d) (sym c.in-LocalKinds.is)
    (subst (λ ns. AreLocalKindsTaken c.args.self.now.own.now c.args.self.now.source.now z.said (kind_names_in c.args.self.now.source.now ds) ns
    c.in-LocalKinds.count) c.as_slice-in-LocalKinds.ensures.value t)) (c.local_kinds_of.ensures.taken z.said
    (kind_names_in c.args.self.now.source.now ds) k hk)

pub returns-in-Constants-clause-refused : goal.returns-in-Constants-clause-refused
returns-in-Constants-clause-refused c = λ used z ds given k u hk hc. IfErr-weaker c.constants.result _ _
    (λ e f. ⊎_elim (λ m. inl m) (λ f. inr (subst (λ d. IsLineFault c.args.self.now.own.now used c.args.self.now.source.now z ds d e)
    (sym c.in-Constants.is) (subst (λ ns. (f : SigFault) × AreConstantsWrong c.args.self.now.source.now z.said ns c.in-Constants.raw f ×
    (e ≡ blamed_by (exports_constant c.args.self.now.own.now) c.args.self.now.source.now f)) c.as_slice-in-Constants.ensures.value f))) f)
    (c.constants.ensures.refused z.said k)

pub returns-in-Constants-clause-taken : goal.returns-in-Constants-clause-taken
returns-in-Constants-clause-taken c = λ used z ds given k u hk hc. IfOk-weaker c.constants.result _ _
    (λ done t. subst (λ d. IsLineTaken c.args.self.now.own.now used c.args.self.now.source.now z ds d) (sym c.in-Constants.is)
    (subst (λ ns. AreShort c.args.self.now.source.now ns × IsSoundType c.args.self.now.source.now z.said c.in-Constants.raw)
    c.as_slice-in-Constants.ensures.value t)) (c.constants.ensures.taken z.said k)

pub returns-in-Locals-clause-refused : goal.returns-in-Locals-clause-refused
returns-in-Locals-clause-refused c = λ used z ds given k u hk hc. IfErr-weaker c.locals_typed.result _ _
    (λ e f. ⊎_elim (λ m. inl m) (λ f. inr (subst (λ d. IsLineFault c.args.self.now.own.now used c.args.self.now.source.now z ds d e)
    (sym c.in-Locals.is) (subst (λ ns. AreLocalsRefused c.args.self.now.own.now c.args.self.now.source.now z.said
    (constant_names_in c.args.self.now.source.now ds) ns c.in-Locals.raw e) c.as_slice-in-Locals.ensures.value f))) f)
    (c.locals_typed.ensures.refused z.said (constant_names_in c.args.self.now.source.now ds) k hc)

pub returns-in-Locals-clause-taken : goal.returns-in-Locals-clause-taken
returns-in-Locals-clause-taken c = λ used z ds given k u hk hc. IfOk-weaker c.locals_typed.result _ _
    (λ done t. subst (λ d. IsLineTaken c.args.self.now.own.now used c.args.self.now.source.now z ds d) (sym c.in-Locals.is)
    (subst (λ ns. AreLocalsTaken c.args.self.now.own.now c.args.self.now.source.now z.said (constant_names_in c.args.self.now.source.now ds) ns
    c.in-Locals.raw) c.as_slice-in-Locals.ensures.value t)) (c.locals_typed.ensures.taken z.said (constant_names_in c.args.self.now.source.now ds) k hc)

pub returns-in-Abbreviation-clause-refused : goal.returns-in-Abbreviation-clause-refused
returns-in-Abbreviation-clause-refused c = λ used z ds given k u hk hc. IfErr-weaker c.abbreviation.result _ _
    (λ e f. ⊎_elim (λ m. inl m) (λ f. inr (subst (λ d. IsLineFault c.args.self.now.own.now used c.args.self.now.source.now z ds d e)
    (sym c.in-Abbreviation.is) (subst (λ ns. (f : SigFault) × IsAbbreviationWrong c.args.self.now.source.now z c.in-Abbreviation.name ns
    c.in-Abbreviation.raw f × (e ≡ blamed_by (exports_kind c.args.self.now.own.now) c.args.self.now.source.now f))
    c.as_slice-in-Abbreviation.ensures.value f))) f) (c.abbreviation.ensures.refused z k u)

pub returns-in-Abbreviation-clause-taken : goal.returns-in-Abbreviation-clause-taken
returns-in-Abbreviation-clause-taken c = λ used z ds given k u hk hc. IfOk-weaker c.abbreviation.result _ _
    (λ done t. subst (λ d. IsLineTaken c.args.self.now.own.now used c.args.self.now.source.now z ds d) (sym c.in-Abbreviation.is)
    (subst (λ ns. IsSoundAbbreviation c.args.self.now.source.now z c.in-Abbreviation.name ns c.in-Abbreviation.raw) c.as_slice-in-Abbreviation.ensures.value t))
    (c.abbreviation.ensures.taken z k u)

pub returns-in-Accumulate-clause-refused : goal.returns-in-Accumulate-clause-refused
returns-in-Accumulate-clause-refused c = λ used z ds given k u hk hc. IfErr-weaker c.accumulate.result _ _
    (λ e f. ⊎_elim (λ m. inl m) (λ f. inr (subst (λ d. IsLineFault c.args.self.now.own.now used c.args.self.now.source.now z ds d e)
    (sym c.in-Accumulate.is) (subst (λ ns. AreModulesRefused c.args.self.now.own.now used c.args.self.now.source.now ds ns e) c.as_slice-in-Accumulate.ensures.value f))) f)
    (c.accumulate.ensures.refused used ds given)

pub returns-in-Accumulate-clause-taken : goal.returns-in-Accumulate-clause-taken
returns-in-Accumulate-clause-taken c = λ used z ds given k u hk hc. IfOk-weaker c.accumulate.result _ _
    (λ done t. subst (λ d. IsLineTaken c.args.self.now.own.now used c.args.self.now.source.now z ds d) (sym c.in-Accumulate.is)
    (subst (AreModulesTaken c.args.self.now.own.now used c.args.self.now.source.now ds) c.as_slice-in-Accumulate.ensures.value t)) (c.accumulate.ensures.taken used ds given)

pub returns-in-AccumSig-clause-refused : goal.returns-in-AccumSig-clause-refused
returns-in-AccumSig-clause-refused c = λ used z ds given k u hk hc. IfErr-weaker c.accum_sig.result _ _
    (λ e f. ⊎_elim (λ m. inl m) (λ f. inr (subst (λ d. IsLineFault c.args.self.now.own.now used c.args.self.now.source.now z ds d e)
    (sym c.in-AccumSig.is) (subst (λ ns. AreSignaturesRefused c.args.self.now.own.now used c.args.self.now.source.now ds ns e) c.as_slice-in-AccumSig.ensures.value f))) f)
    (c.accum_sig.ensures.refused used ds given)

pub returns-in-AccumSig-clause-taken : goal.returns-in-AccumSig-clause-taken
returns-in-AccumSig-clause-taken c = λ used z ds given k u hk hc. IfOk-weaker c.accum_sig.result _ _
    (λ done t. subst (λ d. IsLineTaken c.args.self.now.own.now used c.args.self.now.source.now z ds d) (sym c.in-AccumSig.is)
    (subst (AreSignaturesTaken c.args.self.now.own.now used c.args.self.now.source.now ds) c.as_slice-in-AccumSig.ensures.value t)) (c.accum_sig.ensures.taken used ds given)

pub returns-in-Fixities-clause-taken : goal.returns-in-Fixities-clause-taken
returns-in-Fixities-clause-taken c = λ used z ds given k u hk hc. subst (λ d. IsLineTaken c.args.self.now.own.now used c.args.self.now.source.now z ds d) (sym c.in-Fixities.is) tt

pub returns-in-Kinds-clause-reads : goal.returns-in-Kinds-clause-reads
returns-in-Kinds-clause-reads c = on_ok_always c.kinds.result _ (its_types c.args.making.now c.args.making.now c.args.self.now.source.now c.args.declaration.now _ [] [] c.in-Kinds.is refl refl (reads_same c.args.making.now))

pub returns-in-LocalKinds-clause-reads : goal.returns-in-LocalKinds-clause-reads
returns-in-LocalKinds-clause-reads c = on_ok_always c.local_kinds_of.result _ (its_types c.args.making.now c.args.making.now c.args.self.now.source.now c.args.declaration.now _ [] [] c.in-LocalKinds.is refl refl (reads_same c.args.making.now))

pub returns-in-Accumulate-clause-reads : goal.returns-in-Accumulate-clause-reads
returns-in-Accumulate-clause-reads c = on_ok_always c.accumulate.result _ (its_types c.args.making.now c.args.making.now c.args.self.now.source.now c.args.declaration.now _ [] [] c.in-Accumulate.is refl refl (reads_same c.args.making.now))

pub returns-in-AccumSig-clause-reads : goal.returns-in-AccumSig-clause-reads
returns-in-AccumSig-clause-reads c = on_ok_always c.accum_sig.result _ (its_types c.args.making.now c.args.making.now c.args.self.now.source.now c.args.declaration.now _ [] [] c.in-AccumSig.is refl refl (reads_same c.args.making.now))

pub returns-in-Fixities-clause-reads : goal.returns-in-Fixities-clause-reads
returns-in-Fixities-clause-reads c = its_types c.args.making.now c.args.making.now c.args.self.now.source.now c.args.declaration.now _ [] [] c.in-Fixities.is refl refl (reads_same c.args.making.now)

pub returns-in-Constants-clause-reads : goal.returns-in-Constants-clause-reads
returns-in-Constants-clause-reads c = on_ok_weaker c.constants.result (λ h. its_types c.args.making.now c.constants.new.making c.args.self.now.source.now c.args.declaration.now _ _ _ c.in-Constants.is
    (ap (λ ns. each c.args.self.now.source.now (written_in c.args.self.now.source.now c.in-Constants.raw) ns) c.as_slice-in-Constants.ensures.value) (ap (λ ns. map (λ s. spelled c.args.self.now.source.now s) ns) c.as_slice-in-Constants.ensures.value) h) c.constants.ensures.reads

pub returns-in-Locals-clause-reads : goal.returns-in-Locals-clause-reads
returns-in-Locals-clause-reads c = on_ok_weaker c.locals_typed.result (λ h. its_types c.args.making.now c.locals_typed.new.making c.args.self.now.source.now c.args.declaration.now _ _ _ c.in-Locals.is
    (ap (λ ns. typed_locals c.args.self.now.source.now ns c.in-Locals.raw) c.as_slice-in-Locals.ensures.value) (ap (λ ns. local_names c.args.self.now.source.now ns c.in-Locals.raw) c.as_slice-in-Locals.ensures.value) h) c.locals_typed.ensures.reads

pub returns-in-Abbreviation-clause-reads : goal.returns-in-Abbreviation-clause-reads
returns-in-Abbreviation-clause-reads c = on_ok_weaker c.abbreviation.result (λ grown. its_types c.args.making.now c.abbreviation.new.making c.args.self.now.source.now c.args.declaration.now _ [] [] c.in-Abbreviation.is refl refl
    (reads_none c.args.making.now.names c.args.making.now.bodies c.abbreviation.new.making.bodies c.args.making.now.constants c.abbreviation.new.making.constants grown.bank c.abbreviation.ensures.kept c.abbreviation.ensures.constants)) c.abbreviation.ensures.grown

pub returns-in-Kinds-clause-full : goal.returns-in-Kinds-clause-full
returns-in-Kinds-clause-full c = λ said words k h. err_with c.kinds.result _ (λ e. subst (λ d. HasLineCause c.args.self.now.own.now c.args.self.now.source.now words d e) (sym c.in-Kinds.is) tt)

pub returns-in-Kinds-clause-other : goal.returns-in-Kinds-clause-other
returns-in-Kinds-clause-other c = λ said defs given rows words r. err_with c.kinds.result _ (λ e. subst (λ d. HasLineTypeCause c.args.self.now.own.now c.args.self.now.source.now said defs given rows d e) (sym c.in-Kinds.is) tt)

pub returns-in-Kinds-clause-takes : goal.returns-in-Kinds-clause-takes
returns-in-Kinds-clause-takes c = on_ok_always c.kinds.result _ (its_taken c.args.making.now c.args.making.now c.args.self.now.source.now c.args.declaration.now _ [] [] c.in-Kinds.is refl refl (takes_same c.args.making.now))

pub returns-in-LocalKinds-clause-full : goal.returns-in-LocalKinds-clause-full
returns-in-LocalKinds-clause-full c = λ said words k h. err_with c.local_kinds_of.result _ (λ e. subst (λ d. HasLineCause c.args.self.now.own.now c.args.self.now.source.now words d e) (sym c.in-LocalKinds.is) tt)

pub returns-in-LocalKinds-clause-other : goal.returns-in-LocalKinds-clause-other
returns-in-LocalKinds-clause-other c = λ said defs given rows words r. err_with c.local_kinds_of.result _ (λ e. subst (λ d. HasLineTypeCause c.args.self.now.own.now c.args.self.now.source.now said defs given rows d e) (sym c.in-LocalKinds.is) tt)

pub returns-in-LocalKinds-clause-takes : goal.returns-in-LocalKinds-clause-takes
returns-in-LocalKinds-clause-takes c = on_ok_always c.local_kinds_of.result _ (its_taken c.args.making.now c.args.making.now c.args.self.now.source.now c.args.declaration.now _ [] [] c.in-LocalKinds.is refl refl (takes_same c.args.making.now))

pub returns-in-Abbreviation-clause-full : goal.returns-in-Abbreviation-clause-full
returns-in-Abbreviation-clause-full c = λ said words k h. err_with c.abbreviation.result _ (λ e. subst (λ d. HasLineCause c.args.self.now.own.now c.args.self.now.source.now words d e) (sym c.in-Abbreviation.is) tt)

pub returns-in-Abbreviation-clause-other : goal.returns-in-Abbreviation-clause-other
returns-in-Abbreviation-clause-other c = λ said defs given rows words r. IfErr-weaker c.abbreviation.result _ _
    (λ e f. subst (λ d. HasLineTypeCause c.args.self.now.own.now c.args.self.now.source.now said defs given rows d e) (sym c.in-Abbreviation.is)
    (subst (λ ns. (f : SigFault) × (e ≡ blamed_by (exports_kind c.args.self.now.own.now) c.args.self.now.source.now f) × IsOtherBodyIf c.args.self.now.source.now said defs c.in-Abbreviation.name ns c.in-Abbreviation.raw f) c.as_slice-in-Abbreviation.ensures.value f)) (c.abbreviation.ensures.other said defs r.knows r.holds)

pub returns-in-Accumulate-clause-full : goal.returns-in-Accumulate-clause-full
returns-in-Accumulate-clause-full c = λ said words k h. err_with c.accumulate.result _ (λ e. subst (λ d. HasLineCause c.args.self.now.own.now c.args.self.now.source.now words d e) (sym c.in-Accumulate.is) tt)

pub returns-in-Accumulate-clause-other : goal.returns-in-Accumulate-clause-other
returns-in-Accumulate-clause-other c = λ said defs given rows words r. err_with c.accumulate.result _ (λ e. subst (λ d. HasLineTypeCause c.args.self.now.own.now c.args.self.now.source.now said defs given rows d e) (sym c.in-Accumulate.is) tt)

pub returns-in-Accumulate-clause-takes : goal.returns-in-Accumulate-clause-takes
returns-in-Accumulate-clause-takes c = on_ok_always c.accumulate.result _ (its_taken c.args.making.now c.args.making.now c.args.self.now.source.now c.args.declaration.now _ [] [] c.in-Accumulate.is refl refl (takes_same c.args.making.now))

pub returns-in-AccumSig-clause-full : goal.returns-in-AccumSig-clause-full
returns-in-AccumSig-clause-full c = λ said words k h. err_with c.accum_sig.result _ (λ e. subst (λ d. HasLineCause c.args.self.now.own.now c.args.self.now.source.now words d e) (sym c.in-AccumSig.is) tt)

pub returns-in-AccumSig-clause-other : goal.returns-in-AccumSig-clause-other
returns-in-AccumSig-clause-other c = λ said defs given rows words r. err_with c.accum_sig.result _ (λ e. subst (λ d. HasLineTypeCause c.args.self.now.own.now c.args.self.now.source.now said defs given rows d e) (sym c.in-AccumSig.is) tt)

pub returns-in-AccumSig-clause-takes : goal.returns-in-AccumSig-clause-takes
returns-in-AccumSig-clause-takes c = on_ok_always c.accum_sig.result _ (its_taken c.args.making.now c.args.making.now c.args.self.now.source.now c.args.declaration.now _ [] [] c.in-AccumSig.is refl refl (takes_same c.args.making.now))

pub returns-in-Abbreviation-clause-takes : goal.returns-in-Abbreviation-clause-takes
returns-in-Abbreviation-clause-takes c = on_ok_weaker c.abbreviation.result (λ grown. its_taken c.args.making.now c.abbreviation.new.making c.args.self.now.source.now c.args.declaration.now _ [] [] c.in-Abbreviation.is refl refl
    (takes_none c.args.making.now.names c.args.making.now.bodies c.abbreviation.new.making.bodies c.args.making.now.constants c.abbreviation.new.making.constants grown.bank c.abbreviation.ensures.kept c.abbreviation.ensures.constants)) c.abbreviation.ensures.grown

pub returns-in-Fixities-clause-takes : goal.returns-in-Fixities-clause-takes
returns-in-Fixities-clause-takes c = its_taken c.args.making.now c.args.making.now c.args.self.now.source.now c.args.declaration.now _ [] [] c.in-Fixities.is refl refl (takes_same c.args.making.now)

pub returns-in-Constants-clause-full : goal.returns-in-Constants-clause-full
returns-in-Constants-clause-full c = λ said words k h. IfErr-weaker c.constants.result _ _
    (λ e f. subst (λ d. HasLineCause c.args.self.now.own.now c.args.self.now.source.now words d e) (sym c.in-Constants.is)
    (subst (λ ns. (f : SigFault) × (e ≡ blamed_by (exports_constant c.args.self.now.own.now) c.args.self.now.source.now f) × HasNameCause c.args.self.now.source.now words ns f) c.as_slice-in-Constants.ensures.value f)) (c.constants.ensures.full said words k h)

pub returns-in-Constants-clause-other : goal.returns-in-Constants-clause-other
returns-in-Constants-clause-other c = λ said defs given rows words r. IfErr-weaker c.constants.result _ _
    (λ e f. subst (λ d. HasLineTypeCause c.args.self.now.own.now c.args.self.now.source.now said defs given rows d e) (sym c.in-Constants.is)
    (subst (λ ns. (f : SigFault) × (e ≡ blamed_by (exports_constant c.args.self.now.own.now) c.args.self.now.source.now f) × HasTypeCause c.args.self.now.source.now said defs given rows ns c.in-Constants.raw f) c.as_slice-in-Constants.ensures.value f)) (c.constants.ensures.other said defs given rows words r)

pub returns-in-Constants-clause-takes : goal.returns-in-Constants-clause-takes
returns-in-Constants-clause-takes c = on_ok_weaker c.constants.result (λ h. its_taken c.args.making.now c.constants.new.making c.args.self.now.source.now c.args.declaration.now _ _ _ c.in-Constants.is
    (ap (λ ns. each c.args.self.now.source.now (written_in c.args.self.now.source.now c.in-Constants.raw) ns) c.as_slice-in-Constants.ensures.value) (ap (λ ns. map (λ s. spelled c.args.self.now.source.now s) ns) c.as_slice-in-Constants.ensures.value) h) c.constants.ensures.takes

pub returns-in-Locals-clause-full : goal.returns-in-Locals-clause-full
returns-in-Locals-clause-full c = λ said words k h. IfErr-weaker c.locals_typed.result _ _
    (λ e f. subst (λ d. HasLineCause c.args.self.now.own.now c.args.self.now.source.now words d e) (sym c.in-Locals.is) (subst (λ ns. HaveLocalsCause c.args.self.now.source.now words ns c.in-Locals.raw e) c.as_slice-in-Locals.ensures.value f)) (c.locals_typed.ensures.full said words k h)

pub returns-in-Locals-clause-other : goal.returns-in-Locals-clause-other
returns-in-Locals-clause-other c = λ said defs given rows words r. IfErr-weaker c.locals_typed.result _ _
    (λ e f. subst (λ d. HasLineTypeCause c.args.self.now.own.now c.args.self.now.source.now said defs given rows d e) (sym c.in-Locals.is) (subst (λ ns. HaveLocalsTypeCause c.args.self.now.source.now said defs given rows ns c.in-Locals.raw e) c.as_slice-in-Locals.ensures.value f))
    (c.locals_typed.ensures.other said defs given rows words r)

pub returns-in-Locals-clause-takes : goal.returns-in-Locals-clause-takes
returns-in-Locals-clause-takes c = on_ok_weaker c.locals_typed.result (λ h. its_taken c.args.making.now c.locals_typed.new.making c.args.self.now.source.now c.args.declaration.now _ _ _ c.in-Locals.is
    (ap (λ ns. typed_locals c.args.self.now.source.now ns c.in-Locals.raw) c.as_slice-in-Locals.ensures.value) (ap (λ ns. local_names c.args.self.now.source.now ns c.in-Locals.raw) c.as_slice-in-Locals.ensures.value) h) c.locals_typed.ensures.takes
