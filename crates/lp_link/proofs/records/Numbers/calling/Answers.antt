use Rattle.std.proofs.Common.{◌≡◌, false, refl}
use Rattle.lp_code.specs.declared.instruction.Instr.TheVariants as on
use Rattle.lp_link.specs.inner.Parts.{calls, BecomesMoved}
use Rattle.lp_link.proofs.Remaking.{changed, given, passed_over, no_calling}
use Rattle.lp_link.proofs.records.Numbers.calling.Goals.{in-Call+in_ok-types-in-Call+in_ok-registers-in-Call, in-CallTerm, in-Equal, in-Is, in-Less, in-Greater, in-AtMost, in-AtLeast, in-Cut, in_default}
use Rattle.lp_link.proofs.records.Numbers.calling.Goals as goal

pub returns : goal.returns
returns c = elim c.match-instr.branch [
  | in-Call+in_ok-types-in-Call+in_ok-registers-in-Call w ↦ given c.match-instr.result (calls c.args.instr.now ≡ false)
      (BecomesMoved c.args.self.now c.args.instr.now) (on.Call w.constant.result w.in_ok-types-in-Call.types w.in_ok-registers-in-Call.field-0)
      w.result-is (changed c.args.self.now c.args.instr.now (on.Call w.in-Call.constant w.in-Call.types w.in-Call.args)
      (on.Call w.constant.result w.in_ok-types-in-Call.types w.in_ok-registers-in-Call.field-0) w.in-Call.is
      (λ room. (
        w.in_ok-types-in-Call.types,
        w.in_ok-registers-in-Call.field-0,
        (λ z. on.Call (w.constant.ensures z) w.in_ok-types-in-Call.types
            w.in_ok-registers-in-Call.field-0),
        w.in_ok-types-in-Call.ensures,
        w.in_ok-registers-in-Call.ensures,
      )))
  | in-CallTerm w ↦ given c.match-instr.result (calls c.args.instr.now ≡ false) (BecomesMoved c.args.self.now c.args.instr.now)
      (on.CallTerm w.in-CallTerm.register) w.result-is (changed c.args.self.now c.args.instr.now (on.CallTerm w.in-CallTerm.register)
      (on.CallTerm w.in-CallTerm.register) w.in-CallTerm.is (λ room. refl))
  | in-Equal w ↦ given c.match-instr.result (calls c.args.instr.now ≡ false) (BecomesMoved c.args.self.now c.args.instr.now)
      (on.Equal w.in-Equal.of w.in-Equal.left w.in-Equal.right) w.result-is (changed c.args.self.now c.args.instr.now
      (on.Equal w.in-Equal.of w.in-Equal.left w.in-Equal.right) (on.Equal w.in-Equal.of w.in-Equal.left w.in-Equal.right) w.in-Equal.is
      (λ room. refl))
  | in-Is w ↦ given c.match-instr.result (calls c.args.instr.now ≡ false) (BecomesMoved c.args.self.now c.args.instr.now)
      (on.Is w.in-Is.of w.in-Is.left w.in-Is.right) w.result-is (changed c.args.self.now c.args.instr.now
      (on.Is w.in-Is.of w.in-Is.left w.in-Is.right) (on.Is w.in-Is.of w.in-Is.left w.in-Is.right) w.in-Is.is (λ room. refl))
  | in-Less w ↦ given c.match-instr.result (calls c.args.instr.now ≡ false) (BecomesMoved c.args.self.now c.args.instr.now)
      (on.Less w.in-Less.left w.in-Less.right) w.result-is (changed c.args.self.now c.args.instr.now (on.Less w.in-Less.left w.in-Less.right)
      (on.Less w.in-Less.left w.in-Less.right) w.in-Less.is (λ room. refl))
  | in-Greater w ↦ given c.match-instr.result (calls c.args.instr.now ≡ false) (BecomesMoved c.args.self.now c.args.instr.now)
      (on.Greater w.in-Greater.left w.in-Greater.right) w.result-is (changed c.args.self.now c.args.instr.now
      (on.Greater w.in-Greater.left w.in-Greater.right) (on.Greater w.in-Greater.left w.in-Greater.right) w.in-Greater.is (λ room. refl))
  | in-AtMost w ↦ given c.match-instr.result (calls c.args.instr.now ≡ false) (BecomesMoved c.args.self.now c.args.instr.now)
      (on.AtMost w.in-AtMost.left w.in-AtMost.right) w.result-is (changed c.args.self.now c.args.instr.now
      (on.AtMost w.in-AtMost.left w.in-AtMost.right) (on.AtMost w.in-AtMost.left w.in-AtMost.right) w.in-AtMost.is (λ room. refl))
  | in-AtLeast w ↦ given c.match-instr.result (calls c.args.instr.now ≡ false) (BecomesMoved c.args.self.now c.args.instr.now)
      (on.AtLeast w.in-AtLeast.left w.in-AtLeast.right) w.result-is (changed c.args.self.now c.args.instr.now
      (on.AtLeast w.in-AtLeast.left w.in-AtLeast.right) (on.AtLeast w.in-AtLeast.left w.in-AtLeast.right) w.in-AtLeast.is (λ room. refl))
  | in-Cut w ↦ given c.match-instr.result (calls c.args.instr.now ≡ false) (BecomesMoved c.args.self.now c.args.instr.now) on.Cut w.result-is
      (changed c.args.self.now c.args.instr.now on.Cut on.Cut w.in-Cut.is (λ room. refl))
  | in_default w ↦ passed_over c.match-instr.result (calls c.args.instr.now ≡ false) (BecomesMoved c.args.self.now c.args.instr.now) w.result-is
      (no_calling c.args.instr.now w.in_default.not-Call w.in_default.not-CallTerm w.in_default.not-Equal w.in_default.not-Is w.in_default.not-Less
      w.in_default.not-Greater w.in_default.not-AtMost w.in_default.not-AtLeast w.in_default.not-Cut)
]
