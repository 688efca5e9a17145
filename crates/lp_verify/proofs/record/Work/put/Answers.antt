use Rattle.std.proofs.Common.{refl}
use Rattle.std.proofs.lemmas.Result.{IfOk-weaker}
use Rattle.lp_code.specs.Symbolic.{type_in}
use Rattle.lp_verify.specs.declared.built.Built.{Built}
use Rattle.lp_verify.specs.declared.built.Head.TheVariants as head
use Rattle.lp_verify.specs.declared.typing.Typed.TheVariants as typed
use Rattle.lp_verify.specs.inner.Indices.{store}
use Rattle.lp_verify.proofs.TermsMade.{made_at, type_known, constant_by, integer_by, text_by, abs_by, app_by, fine_by}
use Rattle.lp_verify.proofs.record.Work.put.Goals as goal

pub returns-in-New-clause-made : goal.returns-in-New-clause-made
returns-in-New-clause-made c = λ g a.
    let m = store c.args.types.now c.args.lists.now in
    made_at m m c.args.self.now c.args.instr.now _ c.variable.result c.in-New.is (λ h s k set. (k.of_head.constants.uses, c.variable.ensures c.args.lists.now h s k))

pub returns-in-Sigma-clause-made : goal.returns-in-Sigma-clause-made
returns-in-Sigma-clause-made c = λ g a.
    let m = store c.args.types.now c.args.lists.now in
    made_at m m c.args.self.now c.args.instr.now _ c.variable-in-Sigma.result c.in-Sigma.is (λ h s k set. (k.of_head.constants.uses, c.variable-in-Sigma.ensures c.args.lists.now h s k))

pub returns-in-All-clause-made : goal.returns-in-All-clause-made
returns-in-All-clause-made c = λ g a.
    let m = store c.args.types.now c.args.lists.now in
    made_at m m c.args.self.now c.args.instr.now _ c.variable-in-All.result c.in-All.is (λ h s k set. (k.of_head.constants.uses, c.variable-in-All.ensures c.args.lists.now h s k))

pub returns-in_ok-of-in-PutConst-clause-made : goal.returns-in_ok-of-in-PutConst-clause-made
returns-in_ok-of-in-PutConst-clause-made c = λ g a.
    constant_by c.args.types.now c.constant_type.new.types c.args.lists.now c.args.self.now c.args.instr.now _ c.in-PutConst.constant
    c.in-PutConst.arguments c.as_slice.result.now c.closed.result c.in_ok-of-in-PutConst.of c.in-PutConst.is c.as_slice.ensures.value
    c.closed.ensures c.in_ok-of-in-PutConst.ensures.made

pub returns-in-PutInt-clause-made : goal.returns-in-PutInt-clause-made
returns-in-PutInt-clause-made c = λ g a. integer_by c.args.types.now c.args.lists.now c.args.self.now c.args.instr.now _ c.in-PutInt.field-1 c.closed-in-PutInt.result c.in-PutInt.is c.closed-in-PutInt.ensures

pub returns-in-PutStr-clause-made : goal.returns-in-PutStr-clause-made
returns-in-PutStr-clause-made c = λ g a. text_by c.args.types.now c.args.lists.now c.args.self.now c.args.instr.now _ c.in-PutStr.field-1 c.closed-in-PutStr.result c.in-PutStr.is c.closed-in-PutStr.ensures

pub returns-in_ok-loose-in-PutIndex-clause-made : goal.returns-in_ok-loose-in-PutIndex-clause-made
returns-in_ok-loose-in-PutIndex-clause-made c = λ g a.
    let x = c.args.types.now in
    let l = store x c.args.lists.now in
    let m = store x c.one.new.self in
    let v : Built = record { of = c.type_in-of.result; loose = c.in_ok-loose-in-PutIndex.loose; head = head.Other } in
    made_at l m c.args.self.now c.args.instr.now _ (typed.Built v) c.in-PutIndex.is (λ h s k set.
    let t = type_known l c.args.self.now h s c.in-PutIndex.of c.type_in-of.result k c.type_in-of.ensures in
    (k.of_head.constants.uses, (c.in_ok-loose-in-PutIndex.ensures.one x (type_in s.now c.in-PutIndex.of) t, t, refl)))

pub returns-in-PutAbs-clause-made : goal.returns-in-PutAbs-clause-made
returns-in-PutAbs-clause-made c = IfOk-weaker c.abstraction.result _ _ (λ t m g a. m)
    (abs_by c.args.types.now c.abstraction.new.types c.args.lists.now c.args.self.now c.args.instr.now _ c.in-PutAbs.body c.in-PutAbs.of
    c.abstraction.result c.in-PutAbs.is c.abstraction.ensures.grow c.abstraction.ensures.made)

pub returns-in-PutApp-clause-made : goal.returns-in-PutApp-clause-made
returns-in-PutApp-clause-made c = IfOk-weaker c.application.result _ _ (λ t m g a. m)
    (app_by c.args.types.now c.args.lists.now c.application.new.lists c.args.self.now c.args.instr.now _ c.in-PutApp.function c.in-PutApp.arguments
    c.as_slice-in-PutApp.result.now c.application.result c.in-PutApp.is c.as_slice-in-PutApp.ensures.value c.application.ensures.made)

pub returns-in_default-clause-made : goal.returns-in_default-clause-made
returns-in_default-clause-made c = λ g a.
    let m = store c.args.types.now c.args.lists.now in
    fine_by m c.args.self.now c.args.instr.now g a c.in_default.not-New c.in_default.not-PutConst c.in_default.not-PutInt c.in_default.not-PutStr c.in_default.not-PutIndex c.in_default.not-PutAbs c.in_default.not-PutApp c.in_default.not-Sigma c.in_default.not-All
