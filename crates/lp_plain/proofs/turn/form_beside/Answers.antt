use Rattle.std.proofs.Common.{◌∙◌, ap, inl, inr, refl}
use Rattle.lp_model.specs.Connected.{connective_in}
use Rattle.lp_plain.proofs.BesideForms.{no_form_of}
use Rattle.lp_plain.proofs.turn.form_beside.Goals as goal

pub returns-in_ok-form-in-Atomic-clause-form : goal.returns-in_ok-form-in-Atomic-clause-form
returns-in_ok-form-in-Atomic-clause-form c = λ e k. inl (e ∙ ap (connective_in c.args.machine.now.bank) c.in-Atomic.is, c.in_ok-form-in-Atomic.ensures.form)

pub returns-in_default-clause-form : goal.returns-in_default-clause-form
returns-in_default-clause-form c = λ e k. inr (no_form_of c.args.machine.now.bank c.args.connective _ c.in_default.not-Atomic e k, refl)

pub returns-in_ok-form-in-Atomic-clause-within : goal.returns-in_ok-form-in-Atomic-clause-within
returns-in_ok-form-in-Atomic-clause-within c = c.in_ok-form-in-Atomic.ensures.within

pub returns-in_default-clause-within : goal.returns-in_default-clause-within
returns-in_default-clause-within c = tt
