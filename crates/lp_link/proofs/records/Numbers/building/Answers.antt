use Rattle.std.proofs.Common.{◌≡◌, ◌∙◌, false, refl, Some, ap, arith, w64, to_z, of_z}
use Rattle.std.proofs.lemmas.Int.{to_z-of_z}
use Rattle.lp_code.specs.declared.instruction.Instr.TheVariants as on
use Rattle.lp_link.specs.inner.Parts.{builds, BecomesMoved}
use Rattle.lp_link.proofs.Remaking.{changed, given, passed_over, no_building}
use Rattle.lp_link.proofs.records.Numbers.building.Goals.{in-TyCon+in_ok-registers-in-TyCon, in-TyArr, in-TyNew, in-New, in-PutConst+in_ok-registers-in-PutConst, in-PutInt, in-PutStr+in_ok-text-in-PutStr, in-PutIndex, in-PutAbs, in-PutApp+in_ok-registers-in-PutApp, in_default}
use Rattle.lp_link.proofs.records.Numbers.building.Goals as goal

pub returns : goal.returns
returns c = elim c.match-instr.branch [
  | in-TyCon+in_ok-registers-in-TyCon w ↦ given c.match-instr.result (builds c.args.instr.now ≡ false) (BecomesMoved c.args.self.now c.args.instr.now)
      (on.TyCon w.in-TyCon.d w.kind.result w.in_ok-registers-in-TyCon.field-0) w.result-is
      (changed c.args.self.now c.args.instr.now (on.TyCon w.in-TyCon.d w.in-TyCon.kind w.in-TyCon.types)
      (on.TyCon w.in-TyCon.d w.kind.result w.in_ok-registers-in-TyCon.field-0) w.in-TyCon.is
      (λ room. (
        w.in_ok-registers-in-TyCon.field-0,
        (λ z. on.TyCon w.in-TyCon.d (w.kind.ensures z) w.in_ok-registers-in-TyCon.field-0),
        w.in_ok-registers-in-TyCon.ensures,
      )))
  | in-TyArr w ↦ given c.match-instr.result (builds c.args.instr.now ≡ false) (BecomesMoved c.args.self.now c.args.instr.now)
      (on.TyArr w.in-TyArr.d w.in-TyArr.from w.in-TyArr.to) w.result-is (changed c.args.self.now c.args.instr.now
      (on.TyArr w.in-TyArr.d w.in-TyArr.from w.in-TyArr.to) (on.TyArr w.in-TyArr.d w.in-TyArr.from w.in-TyArr.to) w.in-TyArr.is (λ room. refl))
  | in-TyNew w ↦ given c.match-instr.result (builds c.args.instr.now ≡ false) (BecomesMoved c.args.self.now c.args.instr.now) (on.TyNew w.in-TyNew.d)
      w.result-is (changed c.args.self.now c.args.instr.now (on.TyNew w.in-TyNew.d) (on.TyNew w.in-TyNew.d) w.in-TyNew.is (λ room. refl))
  | in-New w ↦ given c.match-instr.result (builds c.args.instr.now ≡ false) (BecomesMoved c.args.self.now c.args.instr.now)
      (on.New w.in-New.d w.in-New.of) w.result-is (changed c.args.self.now c.args.instr.now (on.New w.in-New.d w.in-New.of)
      (on.New w.in-New.d w.in-New.of) w.in-New.is (λ room. refl))
  | in-PutConst+in_ok-registers-in-PutConst w ↦ given c.match-instr.result (builds c.args.instr.now ≡ false)
      (BecomesMoved c.args.self.now c.args.instr.now) (on.PutConst w.in-PutConst.d w.constant.result w.in_ok-registers-in-PutConst.field-0)
      w.result-is (changed c.args.self.now c.args.instr.now (on.PutConst w.in-PutConst.d w.in-PutConst.constant w.in-PutConst.types)
      (on.PutConst w.in-PutConst.d w.constant.result w.in_ok-registers-in-PutConst.field-0) w.in-PutConst.is
      (λ room. (
        w.in_ok-registers-in-PutConst.field-0,
        (λ z. on.PutConst w.in-PutConst.d (w.constant.ensures z)
            w.in_ok-registers-in-PutConst.field-0),
        w.in_ok-registers-in-PutConst.ensures,
      )))
  | in-PutInt w ↦ given c.match-instr.result (builds c.args.instr.now ≡ false) (BecomesMoved c.args.self.now c.args.instr.now)
      (on.PutInt w.in-PutInt.d w.in-PutInt.value) (w.result-is ∙ ap (λ v. Some (on.PutInt w.in-PutInt.d v))
      (let a : to_z w64 (of_z w64 w.in-PutInt.value) ≡ w.in-PutInt.value = grind (arith, to_z-of_z) in a))
      (changed c.args.self.now c.args.instr.now (on.PutInt w.in-PutInt.d w.in-PutInt.value) (on.PutInt w.in-PutInt.d w.in-PutInt.value) w.in-PutInt.is
      (λ room. refl))
  | in-PutStr+in_ok-text-in-PutStr w ↦ given c.match-instr.result (builds c.args.instr.now ≡ false) (BecomesMoved c.args.self.now c.args.instr.now)
      (on.PutStr w.in-PutStr.d w.in_ok-text-in-PutStr.field-0) w.result-is (changed c.args.self.now c.args.instr.now
      (on.PutStr w.in-PutStr.d w.in-PutStr.text) (on.PutStr w.in-PutStr.d w.in_ok-text-in-PutStr.field-0) w.in-PutStr.is
      (λ room. (w.in_ok-text-in-PutStr.field-0, refl, w.in_ok-text-in-PutStr.ensures)))
  | in-PutIndex w ↦ given c.match-instr.result (builds c.args.instr.now ≡ false) (BecomesMoved c.args.self.now c.args.instr.now)
      (on.PutIndex w.in-PutIndex.d w.in-PutIndex.index w.in-PutIndex.of) w.result-is
      (changed c.args.self.now c.args.instr.now (on.PutIndex w.in-PutIndex.d w.in-PutIndex.index w.in-PutIndex.of)
      (on.PutIndex w.in-PutIndex.d w.in-PutIndex.index w.in-PutIndex.of) w.in-PutIndex.is (λ room. refl))
  | in-PutAbs w ↦ given c.match-instr.result (builds c.args.instr.now ≡ false) (BecomesMoved c.args.self.now c.args.instr.now)
      (on.PutAbs w.in-PutAbs.d w.in-PutAbs.body w.in-PutAbs.of) w.result-is (changed c.args.self.now c.args.instr.now
      (on.PutAbs w.in-PutAbs.d w.in-PutAbs.body w.in-PutAbs.of) (on.PutAbs w.in-PutAbs.d w.in-PutAbs.body w.in-PutAbs.of) w.in-PutAbs.is
      (λ room. refl))
  | in-PutApp+in_ok-registers-in-PutApp w ↦ given c.match-instr.result (builds c.args.instr.now ≡ false)
      (BecomesMoved c.args.self.now c.args.instr.now) (on.PutApp w.in-PutApp.d w.in-PutApp.head w.in_ok-registers-in-PutApp.field-0) w.result-is
      (changed c.args.self.now c.args.instr.now (on.PutApp w.in-PutApp.d w.in-PutApp.head w.in-PutApp.args)
      (on.PutApp w.in-PutApp.d w.in-PutApp.head w.in_ok-registers-in-PutApp.field-0) w.in-PutApp.is
      (λ room. (w.in_ok-registers-in-PutApp.field-0, refl, w.in_ok-registers-in-PutApp.ensures)))
  | in_default w ↦ passed_over c.match-instr.result (builds c.args.instr.now ≡ false) (BecomesMoved c.args.self.now c.args.instr.now) w.result-is
      (no_building c.args.instr.now w.in_default.not-TyCon w.in_default.not-TyArr w.in_default.not-TyNew w.in_default.not-New
      w.in_default.not-PutConst w.in_default.not-PutInt w.in_default.not-PutStr w.in_default.not-PutIndex w.in_default.not-PutAbs
      w.in_default.not-PutApp)
]
