use Rattle.std.proofs.Common.{refl}
use Rattle.std.proofs.lemmas.Result.{IfOk-weaker}
use Rattle.lp_calculus.specs.Typing.{int_type, string_type}
use Rattle.lp_code.specs.Symbolic.{term_in}
use Rattle.lp_verify.specs.inner.Indices.{store}
use Rattle.lp_verify.specs.inner.Made.{nothing_built}
use Rattle.lp_verify.proofs.TermsMade.{made_at, term_known, got_constant_by}
use Rattle.lp_verify.proofs.Instructions.{no_argument_typed}
use Rattle.lp_verify.proofs.record.Work.got.Goals as goal

pub returns-in-GetVar-clause-made : goal.returns-in-GetVar-clause-made
returns-in-GetVar-clause-made c = λ g.
    let m = store c.args.types.now c.args.lists.now in
    made_at m m c.args.self.now c.args.instr.now _ c.own_argument.result c.in-GetVar.is (λ h s k set. (k.of_head.constants.uses, c.own_argument.ensures c.args.lists.now h s k.of_head))

pub returns-in-Get-clause-made : goal.returns-in-Get-clause-made
returns-in-Get-clause-made c = λ g.
    let m = store c.args.types.now c.args.lists.now in
    made_at m m c.args.self.now c.args.instr.now _ c.is_argument.result c.in-Get.is (λ h s k set.
    let t = term_known m c.args.self.now h s c.in-Get.register c.term_in.result k c.term_in.ensures in
    (k.of_head.constants.uses, c.is_argument.ensures c.args.lists.now h s (term_in s.now c.in-Get.register).type nothing_built k.of_head.head t.1 refl refl refl))

pub returns-in_ok-of-in-GetConst-clause-made : goal.returns-in_ok-of-in-GetConst-clause-made
returns-in_ok-of-in-GetConst-clause-made c = λ g.
    got_constant_by c.args.types.now c.constant_type.new.types c.args.lists.now c.args.self.now c.args.instr.now c.in-GetConst.number
    c.in-GetConst.constant c.in-GetConst.arguments c.as_slice.result.now c.in_ok-of-in-GetConst.of c.is_argument-in-GetConst.result
    c.in-GetConst.is c.as_slice.ensures.value c.in_ok-of-in-GetConst.ensures.grow c.in_ok-of-in-GetConst.ensures.made
    c.is_argument-in-GetConst.ensures

pub returns-in-GetInt-clause-made : goal.returns-in-GetInt-clause-made
returns-in-GetInt-clause-made c = λ g.
    let m = store c.args.types.now c.args.lists.now in
    made_at m m c.args.self.now c.args.instr.now _ c.is_argument-in-GetInt.result c.in-GetInt.is (λ h s k set. (k.of_head.constants.uses, c.is_argument-in-GetInt.ensures c.args.lists.now h s int_type nothing_built k.of_head.head k.of_head.constants.basics.integer refl refl refl))

pub returns-in-GetStr-clause-made : goal.returns-in-GetStr-clause-made
returns-in-GetStr-clause-made c = λ g.
    let m = store c.args.types.now c.args.lists.now in
    made_at m m c.args.self.now c.args.instr.now _ c.is_argument-in-GetStr.result c.in-GetStr.is (λ h s k set. (k.of_head.constants.uses, c.is_argument-in-GetStr.ensures c.args.lists.now h s string_type nothing_built k.of_head.head k.of_head.constants.basics.text refl refl refl))

pub returns-in_default-clause-made : goal.returns-in_default-clause-made
returns-in_default-clause-made c = IfOk-weaker c.put.result _ _ (λ t m g. m g (no_argument_typed c.args.instr.now c.in_default.not-GetVar c.in_default.not-Get c.in_default.not-GetConst c.in_default.not-GetInt c.in_default.not-GetStr)) c.put.ensures.made
