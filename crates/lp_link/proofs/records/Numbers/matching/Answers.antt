use Rattle.std.proofs.Common.{◌≡◌, ◌∙◌, false, refl, Some, ap, arith, w64, to_z, of_z}
use Rattle.std.proofs.lemmas.Int.{to_z-of_z}
use Rattle.lp_code.specs.declared.instruction.Instr.TheVariants as on
use Rattle.lp_link.specs.inner.Parts.{matches, BecomesMoved}
use Rattle.lp_link.proofs.Remaking.{changed, given, passed_over, no_matching}
use Rattle.lp_link.proofs.records.Numbers.matching.Goals.{in-GetType, in-GetVar, in-Get, in-GetConst+in_ok-registers-in-GetConst, in-GetInt, in-GetStr+in_ok-text-in-GetStr, in-Neck, in_default}
use Rattle.lp_link.proofs.records.Numbers.matching.Goals as goal

pub returns : goal.returns
returns c = elim c.match-instr.branch [
  | in-GetType w ↦ given c.match-instr.result (matches c.args.instr.now ≡ false) (BecomesMoved c.args.self.now c.args.instr.now)
      (on.GetType w.in-GetType.at w.in-GetType.of) w.result-is (changed c.args.self.now c.args.instr.now (on.GetType w.in-GetType.at w.in-GetType.of)
      (on.GetType w.in-GetType.at w.in-GetType.of) w.in-GetType.is (λ room. refl))
  | in-GetVar w ↦ given c.match-instr.result (matches c.args.instr.now ≡ false) (BecomesMoved c.args.self.now c.args.instr.now)
      (on.GetVar w.in-GetVar.at w.in-GetVar.d) w.result-is (changed c.args.self.now c.args.instr.now (on.GetVar w.in-GetVar.at w.in-GetVar.d)
      (on.GetVar w.in-GetVar.at w.in-GetVar.d) w.in-GetVar.is (λ room. refl))
  | in-Get w ↦ given c.match-instr.result (matches c.args.instr.now ≡ false) (BecomesMoved c.args.self.now c.args.instr.now)
      (on.Get w.in-Get.at w.in-Get.register) w.result-is (changed c.args.self.now c.args.instr.now (on.Get w.in-Get.at w.in-Get.register)
      (on.Get w.in-Get.at w.in-Get.register) w.in-Get.is (λ room. refl))
  | in-GetConst+in_ok-registers-in-GetConst w ↦ given c.match-instr.result (matches c.args.instr.now ≡ false)
      (BecomesMoved c.args.self.now c.args.instr.now) (on.GetConst w.in-GetConst.at w.constant.result w.in_ok-registers-in-GetConst.field-0)
      w.result-is (changed c.args.self.now c.args.instr.now (on.GetConst w.in-GetConst.at w.in-GetConst.constant w.in-GetConst.types)
      (on.GetConst w.in-GetConst.at w.constant.result w.in_ok-registers-in-GetConst.field-0) w.in-GetConst.is
      (λ room. (
        w.in_ok-registers-in-GetConst.field-0,
        (λ z. on.GetConst w.in-GetConst.at (w.constant.ensures z)
            w.in_ok-registers-in-GetConst.field-0),
        w.in_ok-registers-in-GetConst.ensures,
      )))
  | in-GetInt w ↦ given c.match-instr.result (matches c.args.instr.now ≡ false) (BecomesMoved c.args.self.now c.args.instr.now)
      (on.GetInt w.in-GetInt.at w.in-GetInt.value) (w.result-is ∙ ap (λ v. Some (on.GetInt w.in-GetInt.at v))
      (let a : to_z w64 (of_z w64 w.in-GetInt.value) ≡ w.in-GetInt.value = grind (arith, to_z-of_z) in a))
      (changed c.args.self.now c.args.instr.now (on.GetInt w.in-GetInt.at w.in-GetInt.value) (on.GetInt w.in-GetInt.at w.in-GetInt.value)
      w.in-GetInt.is (λ room. refl))
  | in-GetStr+in_ok-text-in-GetStr w ↦ given c.match-instr.result (matches c.args.instr.now ≡ false) (BecomesMoved c.args.self.now c.args.instr.now)
      (on.GetStr w.in-GetStr.at w.in_ok-text-in-GetStr.field-0) w.result-is (changed c.args.self.now c.args.instr.now
      (on.GetStr w.in-GetStr.at w.in-GetStr.text) (on.GetStr w.in-GetStr.at w.in_ok-text-in-GetStr.field-0) w.in-GetStr.is
      (λ room. (w.in_ok-text-in-GetStr.field-0, refl, w.in_ok-text-in-GetStr.ensures)))
  | in-Neck w ↦ given c.match-instr.result (matches c.args.instr.now ≡ false) (BecomesMoved c.args.self.now c.args.instr.now) on.Neck w.result-is
      (changed c.args.self.now c.args.instr.now on.Neck on.Neck w.in-Neck.is (λ room. refl))
  | in_default w ↦ passed_over c.match-instr.result (matches c.args.instr.now ≡ false) (BecomesMoved c.args.self.now c.args.instr.now) w.result-is
      (no_matching c.args.instr.now w.in_default.not-GetType w.in_default.not-GetVar w.in_default.not-Get w.in_default.not-GetConst
      w.in_default.not-GetInt w.in_default.not-GetStr w.in_default.not-Neck)
]
