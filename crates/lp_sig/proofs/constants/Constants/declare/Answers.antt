use Rattle.lp_sig.specs.Sighted.{IsTreeOf}
use Rattle.lp_sig.proofs.Reading.{declared_new, declared_again}
use Rattle.std.proofs.Common.{[], ◌∷◌, ap, inl, inr, refl, ⊎_elim, subst}
use Rattle.std.proofs.lemmas.Result.{IfErr-weaker, on_ok_weaker}
use Rattle.lp_sig.proofs.Declaring.{new_refused, new_known, new_typed, new_taken, untyped_known, untyped_typed, untyped_taken, typed_known, typed_again, typed_refused, typed_taken, missing_taken}
use Rattle.lp_sig.specs.Pieces.{spelled}
use Rattle.lp_sig.specs.Worded.{is_met}
use Rattle.lp_sig.proofs.Worded.{word_new, word_again}
use Rattle.lp_sig.proofs.KnownConstants.{grows_same}
use Rattle.lp_lemmas.proofs.Elements.{Contains_head}
use Rattle.lp_sig.specs.ModuleFaults as faults
use Rattle.lp_lemmas.proofs.Results.{passed_up}
use Rattle.lp_sig.specs.Differing.{HasNameCause}
use Rattle.lp_sig.specs.inner.Taking.{AreOtherIds}
use Rattle.lp_sig.specs.declared.fault.SigFault.TheVariants as fault
use Rattle.lp_sig.proofs.Taking.{new_full, known_cause, memory_cause, new_not_other, other_known, adds_same, name_added}
use Rattle.lp_sig.proofs.constants.Constants.declare.Goals as goal

pub returns-in-New-clause-why : goal.returns-in-New-clause-why
returns-in-New-clause-why c = IfErr-weaker c.add.result _ _
    (λ e f. new_refused c.args.types.now.bank c.known_as.new.types.bank c.args.self.now c.spelled_at-word.result.now _ c.in_ok-known_as.field-0
    c.known_as.ensures.kept c.spelled_at-word.ensures c.in_ok-known_as.ensures.is c.args.declared c.args.name e c.in-New.is f) c.add.ensures.full

pub returns-in-New-clause-known : goal.returns-in-New-clause-known
returns-in-New-clause-known c = on_ok_weaker c.add.result (λ h. new_known c.args.types.now.bank c.known_as.new.types.bank c.args.self.now
    c.spelled_at-word.result.now _ c.in_ok-known_as.field-0 c.known_as.ensures.kept c.spelled_at-word.ensures c.in_ok-known_as.ensures.is
    c.add.new.self c.args.declared c.in-New.is h) c.add.ensures.added

pub returns-in-New-clause-typed : goal.returns-in-New-clause-typed
returns-in-New-clause-typed c = on_ok_weaker c.add.result (λ h. new_typed c.args.types.now.bank c.known_as.new.types.bank c.args.self.now
    c.spelled_at-word.result.now _ c.in_ok-known_as.field-0 c.known_as.ensures.kept c.spelled_at-word.ensures c.in_ok-known_as.ensures.is
    c.add.new.self c.args.declared c.in-New.is h) c.add.ensures.typed

pub returns-in-New-clause-taken : goal.returns-in-New-clause-taken
returns-in-New-clause-taken c = on_ok_weaker c.add.result (λ h from z rows w k t all some. new_taken c.args.types.now.bank c.known_as.new.types.bank
    c.args.self.now c.spelled_at-word.result.now _ c.in_ok-known_as.field-0 c.known_as.ensures.kept c.spelled_at-word.ensures
    c.in_ok-known_as.ensures.is c.args.declared c.in-New.is h from z rows w k t some) c.add.ensures.room

pub returns-in-Untyped-clause-known : goal.returns-in-Untyped-clause-known
returns-in-Untyped-clause-known c = λ said defs rows w k t.
    untyped_known c.args.types.now.bank c.known_as.new.types.bank c.args.self.now c.spelled_at-word.result.now _ c.in_ok-known_as.field-0
    c.known_as.ensures.kept c.spelled_at-word.ensures c.in_ok-known_as.ensures.is c.in-Untyped.is said defs rows w k

pub returns-in-Untyped-clause-typed : goal.returns-in-Untyped-clause-typed
returns-in-Untyped-clause-typed c = λ from z rows w k all some.
    untyped_typed c.args.types.now.bank c.known_as.new.types.bank c.args.self.now c.spelled_at-word.result.now _ c.in_ok-known_as.field-0
    c.known_as.ensures.kept c.spelled_at-word.ensures c.in_ok-known_as.ensures.is c.in-Untyped.is from z rows w k all

pub returns-in-Untyped-clause-taken : goal.returns-in-Untyped-clause-taken
returns-in-Untyped-clause-taken c = λ from z rows w k t all some.
    untyped_taken c.args.types.now.bank c.known_as.new.types.bank c.args.self.now c.spelled_at-word.result.now _ c.in_ok-known_as.field-0
    c.known_as.ensures.kept c.spelled_at-word.ensures c.in_ok-known_as.ensures.is c.in-Untyped.is c.in_ok-known_as.ensures.untyped from z rows w k
    all

pub returns-in_default-clause-known : goal.returns-in_default-clause-known
returns-in_default-clause-known c = λ said defs rows w k t.
    typed_known c.args.types.now.bank c.known_as.new.types.bank c.args.self.now c.spelled_at-word.result.now _ c.in_ok-known_as.field-0
    c.known_as.ensures.kept c.spelled_at-word.ensures c.in_ok-known_as.ensures.is c.in-Typed.known c.in-Typed.is said defs rows w k

pub returns-in_default-clause-typed : goal.returns-in_default-clause-typed
returns-in_default-clause-typed c = λ from z rows w k all some.
    typed_again c.args.types.now.bank c.known_as.new.types.bank c.args.self.now c.spelled_at-word.result.now _ c.in_ok-known_as.field-0
    c.known_as.ensures.kept c.spelled_at-word.ensures c.in_ok-known_as.ensures.is c.in-Typed.known c.in-Typed.is from z rows w k all

pub returns-in_default-clause-taken : goal.returns-in_default-clause-taken
returns-in_default-clause-taken c = λ from z rows w k t all some.
    missing_taken c.args.types.now.bank c.known_as.new.types.bank c.args.self.now c.spelled_at-word.result.now _ c.in_ok-known_as.field-0
    c.known_as.ensures.kept c.spelled_at-word.ensures c.in_ok-known_as.ensures.is c.in-Typed.known c.in-Typed.is c.args.declared c.in_default.is
    from z rows w some

pub returns-then-not-are_equal-clause-why : goal.returns-then-not-are_equal-clause-why
returns-then-not-are_equal-clause-why c = inr
    (typed_refused c.args.types.now.bank c.known_as.new.types.bank c.args.self.now c.spelled_at-word.result.now _ c.in_ok-known_as.field-0
    c.known_as.ensures.kept c.spelled_at-word.ensures c.in_ok-known_as.ensures.is c.in-Typed.known c.in-Typed.is c.args.declared c.in-Some.new
    c.in-Some.is c.args.name (c.if-not-are_equal.ensures.distinct refl))

pub returns-else-not-are_equal-clause-known : goal.returns-else-not-are_equal-clause-known
returns-else-not-are_equal-clause-known c = λ said defs rows w k t.
    typed_known c.args.types.now.bank c.known_as.new.types.bank c.args.self.now c.spelled_at-word.result.now _ c.in_ok-known_as.field-0
    c.known_as.ensures.kept c.spelled_at-word.ensures c.in_ok-known_as.ensures.is c.in-Typed.known c.in-Typed.is said defs rows w k

pub returns-else-not-are_equal-clause-typed : goal.returns-else-not-are_equal-clause-typed
returns-else-not-are_equal-clause-typed c = λ from z rows w k all some.
    typed_again c.args.types.now.bank c.known_as.new.types.bank c.args.self.now c.spelled_at-word.result.now _ c.in_ok-known_as.field-0
    c.known_as.ensures.kept c.spelled_at-word.ensures c.in_ok-known_as.ensures.is c.in-Typed.known c.in-Typed.is from z rows w k all

pub returns-else-not-are_equal-clause-taken : goal.returns-else-not-are_equal-clause-taken
returns-else-not-are_equal-clause-taken c = λ from z rows w k t all some.
    typed_taken c.args.types.now.bank c.known_as.new.types.bank c.args.self.now c.spelled_at-word.result.now _ c.in_ok-known_as.field-0
    c.known_as.ensures.kept c.spelled_at-word.ensures c.in_ok-known_as.ensures.is c.in-Typed.known c.in-Typed.is c.args.declared c.in-Some.new
    c.in-Some.is (c.if-not-are_equal.ensures.same refl) from z rows w k t

pub returns-in-New-clause-words : goal.returns-in-New-clause-words
returns-in-New-clause-words c = on_ok_weaker c.add.result (λ h. word_new c.spelled_at-word.result.now (spelled c.args.source.now c.args.name)
    c.in_ok-known_as.field-0 c.spelled_at-word.ensures c.args.self.now c.in_ok-known_as.ensures.met c.add.new.self (ap is_met c.in-New.is) h)
    c.add.ensures.words

pub returns-in-Untyped-clause-words : goal.returns-in-Untyped-clause-words
returns-in-Untyped-clause-words c = word_again c.spelled_at-word.result.now (spelled c.args.source.now c.args.name) c.in_ok-known_as.field-0
    c.spelled_at-word.ensures c.args.self.now c.in_ok-known_as.ensures.met (ap is_met c.in-Untyped.is)

pub returns-in_default-clause-words : goal.returns-in_default-clause-words
returns-in_default-clause-words c = word_again c.spelled_at-word.result.now (spelled c.args.source.now c.args.name) c.in_ok-known_as.field-0
    c.spelled_at-word.ensures c.args.self.now c.in_ok-known_as.ensures.met (ap is_met c.in-Typed.is)

pub returns-else-not-are_equal-clause-words : goal.returns-else-not-are_equal-clause-words
returns-else-not-are_equal-clause-words c = word_again c.spelled_at-word.result.now (spelled c.args.source.now c.args.name) c.in_ok-known_as.field-0
    c.spelled_at-word.ensures c.args.self.now c.in_ok-known_as.ensures.met (ap is_met c.in-Typed.is)

pub returns-in-New-clause-grown : goal.returns-in-New-clause-grown
returns-in-New-clause-grown c = c.add.ensures.grown

pub returns-in-Untyped-clause-grown : goal.returns-in-Untyped-clause-grown
returns-in-Untyped-clause-grown c = grows_same c.args.self.now

pub returns-in_default-clause-grown : goal.returns-in_default-clause-grown
returns-in_default-clause-grown c = grows_same c.args.self.now

pub returns-else-not-are_equal-clause-grown : goal.returns-else-not-are_equal-clause-grown
returns-else-not-are_equal-clause-grown c = grows_same c.args.self.now

pub returns-in-New-clause-reason : goal.returns-in-New-clause-reason
returns-in-New-clause-reason c = IfErr-weaker c.add.result _ _ (λ e f. ⊎_elim (λ m. inl m) (λ g. inr (faults.no_number g.0)) f) c.add.ensures.full

pub returns-then-not-are_equal-clause-reason : goal.returns-then-not-are_equal-clause-reason
returns-then-not-are_equal-clause-reason c = inr (faults.other_type c.args.name (Contains_head c.args.name []) refl)

pub returns-in-New-clause-tree : goal.returns-in-New-clause-tree
returns-in-New-clause-tree c = on_ok_weaker c.add.result (λ h words d is can. declared_new c.args.types.now.bank c.known_as.new.types.bank c.args.self.now c.add.new.self
    c.args.source.now c.args.name c.spelled_at-word.result.now words d c.known_as.ensures.kept c.spelled_at-word.ensures (h d is) can) c.add.ensures.put

pub returns-in-Untyped-clause-tree : goal.returns-in-Untyped-clause-tree
returns-in-Untyped-clause-tree c = λ words d is can. absurd (c.in_ok-known_as.ensures.never c.in-Untyped.is can.typed)

pub returns-in_default-clause-tree : goal.returns-in_default-clause-tree
returns-in_default-clause-tree c = λ words d is can. let none = c.in_default.is in absurd (cc)

pub returns-else-not-are_equal-clause-tree : goal.returns-else-not-are_equal-clause-tree
returns-else-not-are_equal-clause-tree c = λ words d is can.
    declared_again c.args.types.now.bank c.known_as.new.types.bank c.args.self.now c.args.source.now c.args.name c.spelled_at-word.result.now words c.in-Typed.known c.in-Some.new d c.args.declared
    c.known_as.ensures.kept c.spelled_at-word.ensures (subst (IsTreeOf c.known_as.new.types.bank c.args.self.now c.spelled_at-word.result.now) c.in-Typed.is (c.in_ok-known_as.ensures.tree words can.met can.counted))
    (c.if-not-are_equal.ensures.same refl) c.in-Some.is is can

pub returns-in-New-clause-adds : goal.returns-in-New-clause-adds
returns-in-New-clause-adds c = on_ok_weaker c.add.result (λ h. name_added c.args.self.now c.add.new.self c.args.source.now c.args.name c.spelled_at-word.result.now c.args.declared c.spelled_at-word.ensures h) c.add.ensures.adds

pub returns-in-Untyped-clause-adds : goal.returns-in-Untyped-clause-adds
returns-in-Untyped-clause-adds c = adds_same c.args.self.now c.args.source.now (c.args.name ∷ []) c.args.declared

pub returns-in_default-clause-adds : goal.returns-in_default-clause-adds
returns-in_default-clause-adds c = adds_same c.args.self.now c.args.source.now (c.args.name ∷ []) c.args.declared

pub returns-else-not-are_equal-clause-adds : goal.returns-else-not-are_equal-clause-adds
returns-else-not-are_equal-clause-adds c = adds_same c.args.self.now c.args.source.now (c.args.name ∷ []) c.args.declared

pub returns-in-New-clause-full : goal.returns-in-New-clause-full
returns-in-New-clause-full c = λ words h. IfErr-weaker c.add.result _ (HasNameCause c.args.source.now words (c.args.name ∷ []))
    (λ f g. new_full c.args.source.now words c.args.self.now c.args.name c.spelled_at-word.result.now c.in_ok-known_as.field-0 f _ c.spelled_at-word.ensures c.in-New.is (c.in_ok-known_as.ensures.met words h) h g) c.add.ensures.full

pub returns-then-not-are_equal-clause-full : goal.returns-then-not-are_equal-clause-full
returns-then-not-are_equal-clause-full c = λ words h. known_cause c.args.source.now words c.args.name c.spelled_at-word.result.now c.in_ok-known_as.field-0 c.spelled_at-word.ensures (ap is_met c.in-Typed.is) (c.in_ok-known_as.ensures.met words h)

pub returns-in_err-known_as-clause-full : goal.returns-in_err-known_as-clause-full
returns-in_err-known_as-clause-full c = λ words h. passed_up c.from_residual.result fault.Memory (HasNameCause c.args.source.now words (c.args.name ∷ [])) c.from_residual.ensures.1 (memory_cause c.args.source.now words (c.args.name ∷ []))

pub returns-in-New-clause-other : goal.returns-in-New-clause-other
returns-in-New-clause-other c = λ words h. IfErr-weaker c.add.result _ (AreOtherIds c.args.source.now c.known_as.new.types.bank c.args.self.now (c.args.name ∷ []) c.args.declared)
    (λ f g z is. absurd (new_not_other f z (⊎_elim (λ m. inl m) (λ g. inr g.0) g) is)) c.add.ensures.full

pub returns-then-not-are_equal-clause-other : goal.returns-then-not-are_equal-clause-other
returns-then-not-are_equal-clause-other c = λ words h z is.
    other_known c.args.source.now c.known_as.new.types.bank c.args.self.now c.args.name z c.spelled_at-word.result.now c.args.declared c.in-Typed.known c.in-Some.new
    c.spelled_at-word.ensures (c.in_ok-known_as.ensures.known words h c.in-Typed.known c.in-Typed.is) c.in-Some.is (c.if-not-are_equal.ensures.distinct refl) is

pub returns-in_err-known_as-clause-other : goal.returns-in_err-known_as-clause-other
returns-in_err-known_as-clause-other c = λ words h. passed_up c.from_residual.result fault.Memory (AreOtherIds c.args.source.now c.known_as.new.types.bank c.args.self.now (c.args.name ∷ []) c.args.declared) c.from_residual.ensures.1 (λ z e. absurd (cc))
