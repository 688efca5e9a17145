use Rattle.std.proofs.Common.{subst, sym, refl, ◌++◌, length}
use Rattle.std.specs.Prelude.{IfErr, IfOk, ◌≤◌}
use Rattle.std.proofs.lemmas.Result.{IfOk-weaker, on_ok_weaker}
use Rattle.lp_lemmas.proofs.Results.{on_ok_always}
use Rattle.lp_sig.specs.Limits.{IsShort, AreShort, AreApart, IsWithin}
use Rattle.lp_sig.specs.Said.{a_kind, fixities_by}
use Rattle.lp_sig.specs.Knowing.{KnowsOperators}
use Rattle.lp_sig.specs.Words.{IsKindsFault, AreMeant, AreNumbered}
use Rattle.lp_sig.specs.Faults.{IsSentenceFault, IsAbbreviationFault, IsSound, IsSoundAbbreviation, HasFirstBody}
use Rattle.lp_sig.specs.Constants.{constants_by, KnowsConstants, AreTypedIf, IsConstantsFault}
use Rattle.lp_sig.proofs.Blame.{both_ok}
use Rattle.lp_sig.proofs.Constancy.{constants_kept}
use Rattle.lp_sig.proofs.DeclaredConstants.{nothing_declared, its_constants}
use Rattle.lp_sig.proofs.Sentences.{ok_with}
use Rattle.lp_sig.proofs.SoundSentences.{none_taken, its_taken}
use Rattle.lp_sig.proofs.Spoken.{no_fixities, its_fixities}
use Rattle.lp_sig.proofs.making.Making.declare_line.Goals as goal

pub returns-in-Kinds-clause-taken : goal.returns-in-Kinds-clause-taken
returns-in-Kinds-clause-taken c =
    subst (λ d. IfOk c.declare_kinds.result (λ done. IsWithin c.args.source.now d)) (sym c.in-Kinds.is)
    (subst (λ ns. IfOk c.declare_kinds.result (λ done. AreShort c.args.source.now ns × (c.in-Kinds.arity ≤ 255))) c.as_slice.ensures.value c.declare_kinds.ensures.taken)

pub returns-in-Constants-clause-taken : goal.returns-in-Constants-clause-taken
returns-in-Constants-clause-taken c =
    subst (λ d. IfOk c.declare_constants.result (λ done. IsWithin c.args.source.now d)) (sym c.in-Constants.is)
    (subst (λ ns. IfOk c.declare_constants.result (λ done. AreShort c.args.source.now ns)) c.as_slice-in-Constants.ensures.value c.declare_constants.ensures.taken)

pub returns-in-Abbreviation-clause-taken : goal.returns-in-Abbreviation-clause-taken
returns-in-Abbreviation-clause-taken c =
    subst (λ d. IfOk c.declare_abbreviation.result (λ done. IsWithin c.args.source.now d)) (sym c.in-Abbreviation.is)
    (subst (λ ps. IfOk c.declare_abbreviation.result (λ done. IsShort c.args.source.now c.in-Abbreviation.name × AreApart c.args.source.now ps × (length ps ≤ 255))) c.as_slice-in-Abbreviation.ensures.value c.declare_abbreviation.ensures.taken)

pub returns-in-Kinds-clause-operators : goal.returns-in-Kinds-clause-operators
returns-in-Kinds-clause-operators c = on_ok_always c.declare_kinds.result _ (no_fixities c.args.self.now.operators c.args.source.now c.args.declaration.now _ c.in-Kinds.is refl)

pub returns-in-Constants-clause-operators : goal.returns-in-Constants-clause-operators
returns-in-Constants-clause-operators c = on_ok_always c.declare_constants.result _ (no_fixities c.args.self.now.operators c.args.source.now c.args.declaration.now _ c.in-Constants.is refl)

pub returns-in-Abbreviation-clause-operators : goal.returns-in-Abbreviation-clause-operators
returns-in-Abbreviation-clause-operators c = on_ok_always c.declare_abbreviation.result _
    (λ said k. subst (λ o. KnowsOperators o (said ++ fixities_by c.args.source.now c.args.declaration.now))
    (sym c.declare_abbreviation.ensures.operators) (no_fixities c.args.self.now.operators c.args.source.now c.args.declaration.now _
    c.in-Abbreviation.is refl said k))

pub returns-in-LocalKinds-clause-operators : goal.returns-in-LocalKinds-clause-operators
returns-in-LocalKinds-clause-operators c = no_fixities c.args.self.now.operators c.args.source.now c.args.declaration.now _ c.in-LocalKinds.is refl

pub returns-in-Locals-clause-operators : goal.returns-in-Locals-clause-operators
returns-in-Locals-clause-operators c = no_fixities c.args.self.now.operators c.args.source.now c.args.declaration.now _ c.in-Locals.is refl

pub returns-in-Accumulate-clause-operators : goal.returns-in-Accumulate-clause-operators
returns-in-Accumulate-clause-operators c = no_fixities c.args.self.now.operators c.args.source.now c.args.declaration.now _ c.in-Accumulate.is refl

pub returns-in-AccumSig-clause-operators : goal.returns-in-AccumSig-clause-operators
returns-in-AccumSig-clause-operators c = no_fixities c.args.self.now.operators c.args.source.now c.args.declaration.now _ c.in-AccumSig.is refl

pub returns-in_ok-declare_all-in-Fixities-clause-operators : goal.returns-in_ok-declare_all-in-Fixities-clause-operators
returns-in_ok-declare_all-in-Fixities-clause-operators c = λ said k.
    its_fixities c.declare_all.new.self c.args.source.now c.args.declaration.now c.in-Fixities.names c.as_slice-in-Fixities.result.now c.in-Fixities.fixity c.in-Fixities.number c.in-Fixities.is c.as_slice-in-Fixities.ensures.value said
    (c.in_ok-declare_all-in-Fixities.ensures said k)

pub returns-in-Kinds-clause-why : goal.returns-in-Kinds-clause-why
returns-in-Kinds-clause-why c = λ from z rows s settled k t.
    subst (λ d. IfErr c.declare_kinds.result (IsSentenceFault from c.args.source.now z rows d)) (sym c.in-Kinds.is)
    (subst (λ ns. IfErr c.declare_kinds.result (IsKindsFault c.args.source.now z.said ns c.in-Kinds.arity)) c.as_slice.ensures.value (c.declare_kinds.ensures.why z.said s.known))

pub returns-in-Constants-clause-why : goal.returns-in-Constants-clause-why
returns-in-Constants-clause-why c = λ from z rows s settled k t.
    subst (λ d. IfErr c.declare_constants.result (IsSentenceFault from c.args.source.now z rows d)) (sym c.in-Constants.is)
    (subst (λ ns. IfErr c.declare_constants.result (IsConstantsFault from c.args.source.now z rows ns c.in-Constants.raw)) c.as_slice-in-Constants.ensures.value
    (c.declare_constants.ensures.exact from z rows s.known s.holds settled k t))

pub returns-in-Abbreviation-clause-why : goal.returns-in-Abbreviation-clause-why
returns-in-Abbreviation-clause-why c = λ from z rows s settled k t.
    subst (λ d. IfErr c.declare_abbreviation.result (IsSentenceFault from c.args.source.now z rows d)) (sym c.in-Abbreviation.is)
    (subst (λ ps. IfErr c.declare_abbreviation.result (IsAbbreviationFault c.args.source.now z c.in-Abbreviation.name ps c.in-Abbreviation.raw)) c.as_slice-in-Abbreviation.ensures.value (c.declare_abbreviation.ensures.why z s))

pub returns-in-Constants-clause-constants : goal.returns-in-Constants-clause-constants
returns-in-Constants-clause-constants c = on_ok_weaker c.declare_constants.result (λ h z rows s k.
    its_constants c.declare_constants.new.bodies.types.bank c.declare_constants.new.constants z.said z.definitions rows c.args.source.now c.args.declaration.now c.in-Constants.names c.as_slice-in-Constants.result.now c.in-Constants.raw c.in-Constants.is c.as_slice-in-Constants.ensures.value
    (h z.said z.definitions rows s.known s.holds k)) c.declare_constants.ensures.constants

pub returns-in-Kinds-clause-constants : goal.returns-in-Kinds-clause-constants
returns-in-Kinds-clause-constants c = on_ok_always c.declare_kinds.result _ (λ z rows s k. nothing_declared c.args.self.now.bodies.types.bank c.args.self.now.constants z.said z.definitions rows c.args.source.now c.args.declaration.now _ c.in-Kinds.is refl k)

pub returns-in-Abbreviation-clause-constants : goal.returns-in-Abbreviation-clause-constants
returns-in-Abbreviation-clause-constants c = on_ok_always c.declare_abbreviation.result _ (λ z rows s k.
    let old = c.args.self.now in
    let new = c.declare_abbreviation.new.self in
    let rest = nothing_declared old.bodies.types.bank old.constants z.said z.definitions rows c.args.source.now c.args.declaration.now _ c.in-Abbreviation.is refl k in
    subst (λ cs. KnowsConstants new.bodies.types.bank cs z.said z.definitions (rows ++ constants_by c.args.source.now c.args.declaration.now)) (sym c.declare_abbreviation.ensures.constants)
    (constants_kept old.bodies.types.bank new.bodies.types.bank old.constants z.said z.definitions (rows ++ constants_by c.args.source.now c.args.declaration.now) c.declare_abbreviation.ensures.kept rest))

pub returns-in-LocalKinds-clause-constants : goal.returns-in-LocalKinds-clause-constants
returns-in-LocalKinds-clause-constants c = λ z rows s k. nothing_declared c.args.self.now.bodies.types.bank c.args.self.now.constants z.said z.definitions rows c.args.source.now c.args.declaration.now _ c.in-LocalKinds.is refl k

pub returns-in-Locals-clause-constants : goal.returns-in-Locals-clause-constants
returns-in-Locals-clause-constants c = λ z rows s k. nothing_declared c.args.self.now.bodies.types.bank c.args.self.now.constants z.said z.definitions rows c.args.source.now c.args.declaration.now _ c.in-Locals.is refl k

pub returns-in-Accumulate-clause-constants : goal.returns-in-Accumulate-clause-constants
returns-in-Accumulate-clause-constants c = λ z rows s k. nothing_declared c.args.self.now.bodies.types.bank c.args.self.now.constants z.said z.definitions rows c.args.source.now c.args.declaration.now _ c.in-Accumulate.is refl k

pub returns-in-AccumSig-clause-constants : goal.returns-in-AccumSig-clause-constants
returns-in-AccumSig-clause-constants c = λ z rows s k. nothing_declared c.args.self.now.bodies.types.bank c.args.self.now.constants z.said z.definitions rows c.args.source.now c.args.declaration.now _ c.in-AccumSig.is refl k

pub returns-in_ok-declare_all-in-Fixities-clause-constants : goal.returns-in_ok-declare_all-in-Fixities-clause-constants
returns-in_ok-declare_all-in-Fixities-clause-constants c = λ z rows s k. nothing_declared c.args.self.now.bodies.types.bank c.args.self.now.constants z.said z.definitions rows c.args.source.now c.args.declaration.now _ c.in-Fixities.is refl k

pub returns-in-Kinds-clause-sound : goal.returns-in-Kinds-clause-sound
returns-in-Kinds-clause-sound c = λ from z s settled.
    subst (λ d. IfOk c.declare_kinds.result (λ done. IsSound from c.args.source.now z d)) (sym c.in-Kinds.is)
    (subst (λ ns. IfOk c.declare_kinds.result (λ done. AreMeant c.args.source.now z.said (a_kind c.in-Kinds.arity) ns × AreNumbered c.args.source.now z.said ns)) c.as_slice.ensures.value (c.declare_kinds.ensures.meant z.said s.known))

pub returns-in-Constants-clause-sound : goal.returns-in-Constants-clause-sound
returns-in-Constants-clause-sound c = λ from z s settled.
    subst (λ d. IfOk c.declare_constants.result (λ done. IsSound from c.args.source.now z d)) (sym c.in-Constants.is)
    (both_ok c.declare_constants.result _ _ (c.declare_constants.ensures.stand z.said s.known) (c.declare_constants.ensures.few from z s.known s.holds settled))

pub returns-in-Abbreviation-clause-sound : goal.returns-in-Abbreviation-clause-sound
returns-in-Abbreviation-clause-sound c = λ from z s settled.
    let text = c.args.source.now in
    let name = c.in-Abbreviation.name in
    let raw = c.in-Abbreviation.raw in
    subst (λ d. IfOk c.declare_abbreviation.result (λ done. IsSound from text z d)) (sym c.in-Abbreviation.is)
    (subst (λ ps. IfOk c.declare_abbreviation.result (λ done. IsSoundAbbreviation text z name ps raw × HasFirstBody from text z name ps raw)) c.as_slice-in-Abbreviation.ensures.value
    (both_ok c.declare_abbreviation.result _ _ (c.declare_abbreviation.ensures.stand z s.known s.uses) (c.declare_abbreviation.ensures.same from z s settled)))

pub returns-in-Kinds-clause-declared : goal.returns-in-Kinds-clause-declared
returns-in-Kinds-clause-declared c = λ from z rows s settled k t. ok_with c.declare_kinds.result _ (none_taken from z rows c.args.source.now c.args.self.now.constants c.args.declaration.now _ c.in-Kinds.is refl t)

pub returns-in-Constants-clause-declared : goal.returns-in-Constants-clause-declared
returns-in-Constants-clause-declared c = λ from z rows s settled k t.
    IfOk-weaker c.declare_constants.result _ _ (λ x f. its_taken from z rows c.args.source.now c.declare_constants.new.constants c.args.declaration.now c.in-Constants.names c.as_slice-in-Constants.result.now c.in-Constants.raw c.in-Constants.is c.as_slice-in-Constants.ensures.value f)
    (c.declare_constants.ensures.declared from z rows s.known s.holds settled k t)

pub returns-in-Abbreviation-clause-declared : goal.returns-in-Abbreviation-clause-declared
returns-in-Abbreviation-clause-declared c = λ from z rows s settled k t.
    ok_with c.declare_abbreviation.result _ (none_taken from z rows c.args.source.now c.declare_abbreviation.new.self.constants c.args.declaration.now _ c.in-Abbreviation.is refl (subst (AreTypedIf from z rows) (sym c.declare_abbreviation.ensures.constants) t))

pub returns-in_ok-declare_all-in-Fixities-clause-declared : goal.returns-in_ok-declare_all-in-Fixities-clause-declared
returns-in_ok-declare_all-in-Fixities-clause-declared c = λ from z rows s settled k t. none_taken from z rows c.args.source.now c.args.self.now.constants c.args.declaration.now _ c.in-Fixities.is refl t

pub returns-in-LocalKinds-clause-declared : goal.returns-in-LocalKinds-clause-declared
returns-in-LocalKinds-clause-declared c = λ from z rows s settled k t. none_taken from z rows c.args.source.now c.args.self.now.constants c.args.declaration.now _ c.in-LocalKinds.is refl t

pub returns-in-Locals-clause-declared : goal.returns-in-Locals-clause-declared
returns-in-Locals-clause-declared c = λ from z rows s settled k t. none_taken from z rows c.args.source.now c.args.self.now.constants c.args.declaration.now _ c.in-Locals.is refl t

pub returns-in-Accumulate-clause-declared : goal.returns-in-Accumulate-clause-declared
returns-in-Accumulate-clause-declared c = λ from z rows s settled k t. none_taken from z rows c.args.source.now c.args.self.now.constants c.args.declaration.now _ c.in-Accumulate.is refl t

pub returns-in-AccumSig-clause-declared : goal.returns-in-AccumSig-clause-declared
returns-in-AccumSig-clause-declared c = λ from z rows s settled k t. none_taken from z rows c.args.source.now c.args.self.now.constants c.args.declaration.now _ c.in-AccumSig.is refl t
