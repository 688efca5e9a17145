use Rattle.lp_gen.proofs.StepsUsed.{push_length}
use Rattle.lp_gen.proofs.Using.{uses_nothing}
use Rattle.lp_gen.specs.inner.Stacked.{IsStacked, stack_behind}
use Rattle.lp_gen.specs.inner.Listing.{plain_step}
use Rattle.lp_gen.specs.Registers.{step_takes}
use Rattle.lp_gen.specs.inner.Using.{Lacks, Uses}
use Rattle.lp_lemmas.proofs.Results.{passed_up}
use Rattle.std.specs.Prelude.{nat_lt}
use Rattle.std.proofs.Common.{◌≡◌, ◌++◌, ◌∷◌, [], true, length, map, refl, sym, subst, arith, w64, to_z, of_z, ◌∙◌, ap}
use Rattle.std.proofs.lemmas.Int.{to_z-of_z}
use Rattle.lp_calculus.specs.Term.{atom, integer, text}
use Rattle.lp_calculus.specs.Typing.{int_type, string_type}
use Rattle.lp_term.specs.Nodes.{type_tree}
use Rattle.lp_code.specs.Symbolic.{whole, bound_index}
use Rattle.lp_code.specs.Steps.{constant_of}
use Rattle.lp_gen.specs.declared.term_steps.TermStep.TheVariants as on
use Rattle.lp_gen.specs.Sources.{IsKnownType}
use Rattle.lp_gen.specs.inner.Reading.{read}
use Rattle.lp_gen.specs.inner.Running.{IsKnownConstant, IntegerPut}
use Rattle.lp_gen.specs.inner.TermSteps.{StepsPut}
use Rattle.lp_gen.proofs.StepPut.{leaf_then, register_then}
use Rattle.lp_gen.proofs.term_steps.put_step.Goals as goal

pub returns-in_ok-push-in-Constant-clause-code : goal.returns-in_ok-push-in-Constant-clause-code
returns-in_ok-push-in-Constant-clause-code c = λ start steps x.
    subst (λ o. StepsPut c.args.bank.now start c.put_constant.new.emitter (steps ++ o ∷ []) c.push.new.self.items) (sym c.in-Constant.is)
    (leaf_then c.args.bank.now start c.args.emitter.now c.put_constant.new.emitter steps
    (on.Constant c.in-Constant.number c.in-Constant.types) c.args.made.now.items c.push.new.self.items c.in_ok-register-in-Constant.register
    (λ h v ys. IsKnownConstant h v c.in-Constant.number (map (λ t. type_tree c.args.bank.now t.0) c.in-Constant.types.now)) (λ h ys. constant_of h.tables c.in-Constant.number (map
    (λ t. type_tree c.args.bank.now t.0) c.in-Constant.types.now)) x c.in_ok-register-in-Constant.ensures.code c.in_ok-push-in-Constant.ensures.items refl
    (λ h v i z ys fine. (fine, refl)))

pub returns-in_ok-push-in-Integer-clause-code : goal.returns-in_ok-push-in-Integer-clause-code
returns-in_ok-push-in-Integer-clause-code c = λ start steps x.
    let same : to_z w64 (of_z w64 c.in-Integer.value) ≡ c.in-Integer.value = grind (arith, to_z-of_z) in
    subst (λ o. StepsPut c.args.bank.now start c.put_integer.new.emitter (steps ++ o ∷ []) c.push-in-Integer.new.self.items) (sym c.in-Integer.is)
    (leaf_then c.args.bank.now start c.args.emitter.now c.put_integer.new.emitter steps
    (on.Integer c.in-Integer.value) c.args.made.now.items c.push-in-Integer.new.self.items c.in_ok-register-in-Integer.register
    (λ h v ys. Unit {0}) (λ h ys. whole (atom (integer c.in-Integer.value)) int_type) x (subst
    (IntegerPut c.args.emitter.now c.put_integer.new.emitter c.in_ok-register-in-Integer.register) same c.in_ok-register-in-Integer.ensures.code) c.in_ok-push-in-Integer.ensures.items refl
    (λ h v i z ys fine. (tt, refl)))

pub returns-in_ok-push-in-Text-clause-code : goal.returns-in_ok-push-in-Text-clause-code
returns-in_ok-push-in-Text-clause-code c = λ start steps x.
    subst (λ o. StepsPut c.args.bank.now start c.put_text.new.emitter (steps ++ o ∷ []) c.push-in-Text.new.self.items) (sym c.in-Text.is)
    (leaf_then c.args.bank.now start c.args.emitter.now c.put_text.new.emitter steps
    (on.Text c.in-Text.bytes) c.args.made.now.items c.push-in-Text.new.self.items c.in_ok-register-in-Text.register
    (λ h v ys. nat_lt (length c.in-Text.bytes.now) 65536 ≡ true) (λ h ys. whole (atom (text c.in-Text.bytes.now)) string_type) x c.in_ok-register-in-Text.ensures.code
    c.in_ok-push-in-Text.ensures.items refl (λ h v i z ys fine. (fine, refl)))

pub returns-in_ok-push-in-Index-clause-code : goal.returns-in_ok-push-in-Index-clause-code
returns-in_ok-push-in-Index-clause-code c = λ start steps x.
    subst (λ o. StepsPut c.args.bank.now start c.put_index.new.emitter (steps ++ o ∷ []) c.push-in-Index.new.self.items) (sym c.in-Index.is)
    (leaf_then c.args.bank.now start c.args.emitter.now c.put_index.new.emitter steps
    (on.Index c.in-Index.index c.in-Index.of) c.args.made.now.items c.push-in-Index.new.self.items c.in_ok-register-in-Index.register
    (λ h v ys. IsKnownType h.tables.kinds v (read c.args.bank.now c.in-Index.of)) (λ h ys. bound_index c.in-Index.index
    (read c.args.bank.now c.in-Index.of)) x c.in_ok-register-in-Index.ensures.code c.in_ok-push-in-Index.ensures.items refl
    (λ h v i z ys fine. (fine, refl)))

pub returns-in_ok-new_variable-in-New-clause-code : goal.returns-in_ok-new_variable-in-New-clause-code
returns-in_ok-new_variable-in-New-clause-code c = λ start steps x.
    subst (λ o. StepsPut c.args.bank.now start c.new_variable.new.emitter (steps ++ o ∷ []) c.args.made.now.items) (sym c.in-New.is)
    (c.in_ok-new_variable-in-New.ensures.code start steps c.args.made.now.items x)

pub returns-in_ok-push-in-Register-clause-code : goal.returns-in_ok-push-in-Register-clause-code
returns-in_ok-push-in-Register-clause-code c = λ start steps x.
    subst (λ o. StepsPut c.args.bank.now start c.args.emitter.now (steps ++ o ∷ []) c.push-in-Register.new.self.items) (sym c.in-Register.is)
    (register_then c.args.bank.now start c.args.emitter.now steps c.args.made.now.items c.push-in-Register.new.self.items c.in-Register.register x c.in_ok-push-in-Register.ensures.items)

pub returns-in_ok-apply-in-Apply-clause-code : goal.returns-in_ok-apply-in-Apply-clause-code
returns-in_ok-apply-in-Apply-clause-code c = λ start steps x.
    subst (λ o. StepsPut c.args.bank.now start c.apply.new.emitter (steps ++ o ∷ []) c.apply.new.made.items) (sym c.in-Apply.is)
    (c.in_ok-apply-in-Apply.ensures.code start steps x)

pub returns-in_ok-abstraction-in-Abstract-clause-code : goal.returns-in_ok-abstraction-in-Abstract-clause-code
returns-in_ok-abstraction-in-Abstract-clause-code c = λ start steps x.
    subst (λ o. StepsPut c.args.bank.now start c.abstraction.new.emitter (steps ++ o ∷ []) c.abstraction.new.made.items) (sym c.in-Abstract.is)
    (c.in_ok-abstraction-in-Abstract.ensures.code start steps x)

pub returns-in_ok-push-in-Constant-clause-count : goal.returns-in_ok-push-in-Constant-clause-count
returns-in_ok-push-in-Constant-clause-count c =
    ap length c.in_ok-push-in-Constant.ensures.items ∙ push_length c.args.made.now.items _ ∙ ap (λ s. stack_behind (length c.args.made.now.items) (plain_step c.args.bank.now s)) (sym c.in-Constant.is)

pub returns-in_ok-push-in-Constant-clause-uses : goal.returns-in_ok-push-in-Constant-clause-uses
returns-in_ok-push-in-Constant-clause-uses c =
    subst (λ s. Uses c.args.emitter.now c.put_constant.new.emitter (step_takes (plain_step c.args.bank.now s))) (sym c.in-Constant.is) c.in_ok-register-in-Constant.ensures.uses

pub returns-in_err-register-in-Constant-clause-lacks : goal.returns-in_err-register-in-Constant-clause-lacks
returns-in_err-register-in-Constant-clause-lacks c =
    let e = c.in_err-register-in-Constant.field-0.0 in
    passed_up c.from_residual.result e (Lacks c.args.emitter.now (step_takes (plain_step c.args.bank.now c.args.step))) c.from_residual.ensures.1
    (subst (λ s. Lacks c.args.emitter.now (step_takes (plain_step c.args.bank.now s)) e) (sym c.in-Constant.is) c.in_err-register-in-Constant.ensures.lacks)

pub returns-in_ok-push-in-Integer-clause-count : goal.returns-in_ok-push-in-Integer-clause-count
returns-in_ok-push-in-Integer-clause-count c =
    ap length c.in_ok-push-in-Integer.ensures.items ∙ push_length c.args.made.now.items _ ∙ ap (λ s. stack_behind (length c.args.made.now.items) (plain_step c.args.bank.now s)) (sym c.in-Integer.is)

pub returns-in_ok-push-in-Integer-clause-uses : goal.returns-in_ok-push-in-Integer-clause-uses
returns-in_ok-push-in-Integer-clause-uses c =
    subst (λ s. Uses c.args.emitter.now c.put_integer.new.emitter (step_takes (plain_step c.args.bank.now s))) (sym c.in-Integer.is) c.in_ok-register-in-Integer.ensures.uses

pub returns-in_err-register-in-Integer-clause-lacks : goal.returns-in_err-register-in-Integer-clause-lacks
returns-in_err-register-in-Integer-clause-lacks c =
    let e = c.in_err-register-in-Integer.field-0.0 in
    passed_up c.from_residual-in_err-register-in-Integer.result e (Lacks c.args.emitter.now (step_takes (plain_step c.args.bank.now c.args.step))) c.from_residual-in_err-register-in-Integer.ensures.1
    (subst (λ s. Lacks c.args.emitter.now (step_takes (plain_step c.args.bank.now s)) e) (sym c.in-Integer.is) c.in_err-register-in-Integer.ensures.lacks)

pub returns-in_ok-push-in-Text-clause-count : goal.returns-in_ok-push-in-Text-clause-count
returns-in_ok-push-in-Text-clause-count c =
    ap length c.in_ok-push-in-Text.ensures.items ∙ push_length c.args.made.now.items _ ∙ ap (λ s. stack_behind (length c.args.made.now.items) (plain_step c.args.bank.now s)) (sym c.in-Text.is)

pub returns-in_ok-push-in-Text-clause-uses : goal.returns-in_ok-push-in-Text-clause-uses
returns-in_ok-push-in-Text-clause-uses c =
    subst (λ s. Uses c.args.emitter.now c.put_text.new.emitter (step_takes (plain_step c.args.bank.now s))) (sym c.in-Text.is) c.in_ok-register-in-Text.ensures.uses

pub returns-in_err-register-in-Text-clause-lacks : goal.returns-in_err-register-in-Text-clause-lacks
returns-in_err-register-in-Text-clause-lacks c =
    let e = c.in_err-register-in-Text.field-0.0 in
    passed_up c.from_residual-in_err-register-in-Text.result e (Lacks c.args.emitter.now (step_takes (plain_step c.args.bank.now c.args.step))) c.from_residual-in_err-register-in-Text.ensures.1
    (subst (λ s. Lacks c.args.emitter.now (step_takes (plain_step c.args.bank.now s)) e) (sym c.in-Text.is) c.in_err-register-in-Text.ensures.lacks)

pub returns-in_ok-push-in-Index-clause-count : goal.returns-in_ok-push-in-Index-clause-count
returns-in_ok-push-in-Index-clause-count c =
    ap length c.in_ok-push-in-Index.ensures.items ∙ push_length c.args.made.now.items _ ∙ ap (λ s. stack_behind (length c.args.made.now.items) (plain_step c.args.bank.now s)) (sym c.in-Index.is)

pub returns-in_ok-push-in-Index-clause-uses : goal.returns-in_ok-push-in-Index-clause-uses
returns-in_ok-push-in-Index-clause-uses c =
    subst (λ s. Uses c.args.emitter.now c.put_index.new.emitter (step_takes (plain_step c.args.bank.now s))) (sym c.in-Index.is) c.in_ok-register-in-Index.ensures.uses

pub returns-in_err-register-in-Index-clause-lacks : goal.returns-in_err-register-in-Index-clause-lacks
returns-in_err-register-in-Index-clause-lacks c =
    let e = c.in_err-register-in-Index.field-0.0 in
    passed_up c.from_residual-in_err-register-in-Index.result e (Lacks c.args.emitter.now (step_takes (plain_step c.args.bank.now c.args.step))) c.from_residual-in_err-register-in-Index.ensures.1
    (subst (λ s. Lacks c.args.emitter.now (step_takes (plain_step c.args.bank.now s)) e) (sym c.in-Index.is) c.in_err-register-in-Index.ensures.lacks)

pub returns-in_ok-push-in-Register-clause-count : goal.returns-in_ok-push-in-Register-clause-count
returns-in_ok-push-in-Register-clause-count c =
    ap length c.in_ok-push-in-Register.ensures.items ∙ push_length c.args.made.now.items _ ∙ ap (λ s. stack_behind (length c.args.made.now.items) (plain_step c.args.bank.now s)) (sym c.in-Register.is)

pub returns-in_ok-push-in-Register-clause-uses : goal.returns-in_ok-push-in-Register-clause-uses
returns-in_ok-push-in-Register-clause-uses c =
    subst (λ s. Uses c.args.emitter.now c.args.emitter.now (step_takes (plain_step c.args.bank.now s))) (sym c.in-Register.is) (uses_nothing c.args.emitter.now)

pub returns-in_ok-new_variable-in-New-clause-count : goal.returns-in_ok-new_variable-in-New-clause-count
returns-in_ok-new_variable-in-New-clause-count c =
    ap (λ s. stack_behind (length c.args.made.now.items) (plain_step c.args.bank.now s)) (sym c.in-New.is)

pub returns-in_ok-new_variable-in-New-clause-uses : goal.returns-in_ok-new_variable-in-New-clause-uses
returns-in_ok-new_variable-in-New-clause-uses c =
    subst (λ s. Uses c.args.emitter.now c.new_variable.new.emitter (step_takes (plain_step c.args.bank.now s))) (sym c.in-New.is) c.in_ok-new_variable-in-New.ensures.uses

pub returns-in_err-new_variable-in-New-clause-lacks : goal.returns-in_err-new_variable-in-New-clause-lacks
returns-in_err-new_variable-in-New-clause-lacks c =
    let e = c.in_err-new_variable-in-New.field-0.0 in
    passed_up c.from_residual-in_err-new_variable-in-New.result e (Lacks c.args.emitter.now (step_takes (plain_step c.args.bank.now c.args.step))) c.from_residual-in_err-new_variable-in-New.ensures.1
    (subst (λ s. Lacks c.args.emitter.now (step_takes (plain_step c.args.bank.now s)) e) (sym c.in-New.is) c.in_err-new_variable-in-New.ensures.lacks)

pub returns-in_ok-apply-in-Apply-clause-count : goal.returns-in_ok-apply-in-Apply-clause-count
returns-in_ok-apply-in-Apply-clause-count c =
    c.in_ok-apply-in-Apply.ensures.count ∙ ap (λ s. stack_behind (length c.args.made.now.items) (plain_step c.args.bank.now s)) (sym c.in-Apply.is)

pub returns-in_ok-apply-in-Apply-clause-uses : goal.returns-in_ok-apply-in-Apply-clause-uses
returns-in_ok-apply-in-Apply-clause-uses c =
    subst (λ s. Uses c.args.emitter.now c.apply.new.emitter (step_takes (plain_step c.args.bank.now s))) (sym c.in-Apply.is) c.in_ok-apply-in-Apply.ensures.uses

pub returns-in_err-apply-in-Apply-clause-lacks : goal.returns-in_err-apply-in-Apply-clause-lacks
returns-in_err-apply-in-Apply-clause-lacks c =
    let e = c.in_err-apply-in-Apply.field-0.0 in
    passed_up c.from_residual-in_err-apply-in-Apply.result e (Lacks c.args.emitter.now (step_takes (plain_step c.args.bank.now c.args.step))) c.from_residual-in_err-apply-in-Apply.ensures.1
    (subst (λ s. Lacks c.args.emitter.now (step_takes (plain_step c.args.bank.now s)) e) (sym c.in-Apply.is) c.in_err-apply-in-Apply.ensures.lacks)

pub returns-in_ok-abstraction-in-Abstract-clause-count : goal.returns-in_ok-abstraction-in-Abstract-clause-count
returns-in_ok-abstraction-in-Abstract-clause-count c =
    c.in_ok-abstraction-in-Abstract.ensures.count ∙ ap (λ s. stack_behind (length c.args.made.now.items) (plain_step c.args.bank.now s)) (sym c.in-Abstract.is)

pub returns-in_ok-abstraction-in-Abstract-clause-uses : goal.returns-in_ok-abstraction-in-Abstract-clause-uses
returns-in_ok-abstraction-in-Abstract-clause-uses c =
    subst (λ s. Uses c.args.emitter.now c.abstraction.new.emitter (step_takes (plain_step c.args.bank.now s))) (sym c.in-Abstract.is) c.in_ok-abstraction-in-Abstract.ensures.uses

pub returns-in_err-abstraction-in-Abstract-clause-lacks : goal.returns-in_err-abstraction-in-Abstract-clause-lacks
returns-in_err-abstraction-in-Abstract-clause-lacks c =
    let e = c.in_err-abstraction-in-Abstract.field-0.0 in
    passed_up c.from_residual-in_err-abstraction-in-Abstract.result e (Lacks c.args.emitter.now (step_takes (plain_step c.args.bank.now c.args.step))) c.from_residual-in_err-abstraction-in-Abstract.ensures.1
    (subst (λ s. Lacks c.args.emitter.now (step_takes (plain_step c.args.bank.now s)) e) (sym c.in-Abstract.is) c.in_err-abstraction-in-Abstract.ensures.lacks)

pub apply-requires : goal.apply-requires
apply-requires c =
    subst (λ s. IsStacked (length c.args.made.now.items) (plain_step c.args.bank.now s)) c.in-Apply.is c.requires

pub abstraction-requires : goal.abstraction-requires
abstraction-requires c =
    subst (λ s. IsStacked (length c.args.made.now.items) (plain_step c.args.bank.now s)) c.in-Abstract.is c.requires
