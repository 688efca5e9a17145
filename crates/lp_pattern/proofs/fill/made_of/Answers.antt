use Rattle.std.proofs.Common.{◌<◌, sym, subst as transport}
use Rattle.std.specs.Prelude.{All}
use Rattle.std.proofs.lemmas.Result.{IfOk-weaker}
use Rattle.lp_lemmas.proofs.Results.{on_ok_always}
use Rattle.lp_pattern.specs.FillingTerms.{HasShape}
use Rattle.lp_pattern.proofs.FilledTerms.{bound_made, typed_shape, applied_shape, some_weaker, terms_later}
use Rattle.std.proofs.Common.{length}
use Rattle.lp_term.proofs.Walking.{on_ok}
use Rattle.lp_pattern.specs.FillingTerms.{AreIn}
use Rattle.lp_pattern.proofs.Making.{below_later}
use Rattle.lp_pattern.proofs.fill.made_of.Goals as goal

pub returns-in-Bound-clause-made : goal.returns-in-Bound-clause-made
returns-in-Bound-clause-made c =
    IfOk-weaker c.known_part.result _ _
    (λ o p.
    some_weaker o _ _
    (λ t f d R h F. bound_made c.args.bank.now c.args.bindings.now d c.args.id c.in-Bound.value t c.in_ok-shape_of.field-0 c.in-Bound.is c.in_ok-shape_of.ensures.shape R (f c.args.bank.now d F))
    p)
    c.known_part.ensures.made

pub returns-in_ok-new-in-Typed-clause-filled : goal.returns-in_ok-new-in-Typed-clause-filled
returns-in_ok-new-in-Typed-clause-filled c = λ d R h F.
    let w =
    typed_shape c.args.bank.now c.args.bindings.now c.args.id.0 c.in-Typed.number c.in_ok-shape_of.field-0 c.in-Typed.types c.as_slice.result.now c.in-Typed.is c.as_slice.ensures.value c.in_ok-shape_of.ensures.shape in
    (c.in_ok-new-in-Typed.ensures.made d R h F w.0 w.1).0

pub returns-in_ok-new-in-Typed-clause-made : goal.returns-in_ok-new-in-Typed-clause-made
returns-in_ok-new-in-Typed-clause-made c = λ d R h F.
    let w =
    typed_shape c.args.bank.now c.args.bindings.now c.args.id.0 c.in-Typed.number c.in_ok-shape_of.field-0 c.in-Typed.types c.as_slice.result.now c.in-Typed.is c.as_slice.ensures.value c.in_ok-shape_of.ensures.shape in
    (c.in_ok-new-in-Typed.ensures.made d R h F w.0 w.1).1

pub returns-in_ok-new-in-Parameter-clause-filled : goal.returns-in_ok-new-in-Parameter-clause-filled
returns-in_ok-new-in-Parameter-clause-filled c = λ d R h F.
    let w = transport (HasShape c.args.bank.now c.args.bindings.now c.args.id.0) c.in-Parameter.is c.in_ok-shape_of.ensures.shape in
    (c.in_ok-new-in-Parameter.ensures.made d R h F w.0 w.1).0

pub returns-in_ok-new-in-Parameter-clause-made : goal.returns-in_ok-new-in-Parameter-clause-made
returns-in_ok-new-in-Parameter-clause-made c = λ d R h F.
    let w = transport (HasShape c.args.bank.now c.args.bindings.now c.args.id.0) c.in-Parameter.is c.in_ok-shape_of.ensures.shape in
    (c.in_ok-new-in-Parameter.ensures.made d R h F w.0 w.1).1

pub returns-in-Abstraction-clause-filled : goal.returns-in-Abstraction-clause-filled
returns-in-Abstraction-clause-filled c =
    on_ok_always c.abstraction.result _ (λ d R h F. terms_later c.args.bank.now c.abstraction.new.bank d c.args.done.now c.abstraction.ensures.kept F)

pub returns-in-Abstraction-clause-made : goal.returns-in-Abstraction-clause-made
returns-in-Abstraction-clause-made c =
    IfOk-weaker c.abstraction.result _ _
    (λ o p.
    some_weaker o _ _ (λ t f d R h F. f d h F (transport (HasShape c.args.bank.now c.args.bindings.now c.args.id.0) c.in-Abstraction.is c.in_ok-shape_of.ensures.shape)) p)
    c.abstraction.ensures.made

pub returns-in-Application-clause-filled : goal.returns-in-Application-clause-filled
returns-in-Application-clause-filled c =
    on_ok_always c.application.result _ (λ d R h F. terms_later c.args.bank.now c.application.new.bank d c.args.done.now c.application.ensures.kept F)

pub returns-in-Application-clause-made : goal.returns-in-Application-clause-made
returns-in-Application-clause-made c =
    IfOk-weaker c.application.result _ _
    (λ o p.
    some_weaker o _ _
    (λ t f d R h F.
    f d F
    (applied_shape c.args.bank.now c.args.bindings.now c.args.id.0 c.in-Application.head c.in_ok-shape_of.field-0 c.in-Application.arguments c.as_slice-in-Application.result.now c.in-Application.is
    c.as_slice-in-Application.ensures.value c.in_ok-shape_of.ensures.shape))
    p)
    c.application.ensures.made

pub returns-in-Bound-clause-within : goal.returns-in-Bound-clause-within
returns-in-Bound-clause-within c =
    on_ok c.known_part.result _ _ (λ f h. f (length c.args.bank.now.terms) (transport (AreIn c.args.bank.now) c.in-Bound.is c.in_ok-shape_of.ensures.within) h) c.known_part.ensures.within

pub returns-in_ok-new-in-Typed-clause-within : goal.returns-in_ok-new-in-Typed-clause-within
returns-in_ok-new-in-Typed-clause-within c = λ h. below_later c.args.bank.now c.typed.new.bank c.args.left.now.items c.in_ok-new-in-Typed.ensures.kept h

pub returns-in_ok-new-in-Parameter-clause-within : goal.returns-in_ok-new-in-Parameter-clause-within
returns-in_ok-new-in-Parameter-clause-within c = λ h. below_later c.args.bank.now c.parameter.new.bank c.args.left.now.items c.in_ok-new-in-Parameter.ensures.kept h

pub returns-in-Abstraction-clause-within : goal.returns-in-Abstraction-clause-within
returns-in-Abstraction-clause-within c =
    on_ok c.abstraction.result _ _
    (λ f h.
    below_later c.args.bank.now c.abstraction.new.bank c.abstraction.new.left.items c.abstraction.ensures.kept
    (f (length c.args.bank.now.terms) (transport (AreIn c.args.bank.now) c.in-Abstraction.is c.in_ok-shape_of.ensures.within) h))
    c.abstraction.ensures.within

pub returns-in-Application-clause-within : goal.returns-in-Application-clause-within
returns-in-Application-clause-within c =
    on_ok c.application.result _ _
    (λ f h.
    let w = transport (AreIn c.args.bank.now) c.in-Application.is c.in_ok-shape_of.ensures.within in
    below_later c.args.bank.now c.application.new.bank c.application.new.left.items c.application.ensures.kept
    (f (length c.args.bank.now.terms) w.0 (transport (All (λ t. t.0 < length c.args.bank.now.terms)) (sym c.as_slice-in-Application.ensures.value) w.1) h))
    c.application.ensures.within
