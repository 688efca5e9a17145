use Rattle.std.proofs.lemmas.Result.{on_ok_weaker}
use Rattle.lp_code.specs.declared.instruction.Instr.TheVariants as on
use Rattle.lp_verify.proofs.FirstTaken.{passes_same, get_passes, get_var_passes, other_passes}
use Rattle.lp_verify.proofs.arguments.Takings.pass.Goals as goal

pub returns-in-Get : goal.returns-in-Get
returns-in-Get c =
    let i = c.args.instr.now in
    let k = c.args.number in
    let old = c.args.self.now.first in
    on_ok_weaker c.note.result (λ m. passes_same i (on.Get c.in-Get.field-0 c.in-Get.register) k old c.note.new.self.first c.in-Get.is (get_passes c.in-Get.field-0 c.in-Get.register k old c.note.new.self.first m)) c.note.ensures

pub returns-in-GetVar : goal.returns-in-GetVar
returns-in-GetVar c =
    let i = c.args.instr.now in
    let k = c.args.number in
    let old = c.args.self.now.first in
    on_ok_weaker c.note-in-GetVar.result (λ m. passes_same i (on.GetVar c.in-GetVar.field-0 c.in-GetVar.register) k old c.note-in-GetVar.new.self.first c.in-GetVar.is (get_var_passes c.in-GetVar.field-0 c.in-GetVar.register k old c.note-in-GetVar.new.self.first m)) c.note-in-GetVar.ensures

pub returns-in_default : goal.returns-in_default
returns-in_default c = other_passes c.args.instr.now c.args.number c.args.self.now.first c.in_default.not-Get c.in_default.not-GetVar c.in_default.not-PutAbs c.in_default.not-PutApp
