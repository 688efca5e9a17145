use Rattle.std.proofs.Common.{◌∙◌, refl, sym, subst}
use Rattle.lp_code.specs.declared.instruction.Instr.TheVariants as on
use Rattle.lp_link.specs.inner.Parts.{BecomesMoved}
use Rattle.lp_link.proofs.Remaking.{changed, raised, only_proceed}
use Rattle.lp_link.proofs.records.Numbers.of_blocks.Goals.{in-Sigma, in-All, in-EndAll, in-Assume+in_ok-records-in-Assume+in_ok-types-in-Assume+in_ok-registers-in-Assume, in-EndAssume, in-Either, in-Jump, in-Not, in-EndNot, in_default}
use Rattle.lp_link.proofs.records.Numbers.of_blocks.Goals as goal

pub returns : goal.returns
returns c = elim c.match-instr.branch [
  | in-Sigma w ↦ subst (BecomesMoved c.args.self.now c.args.instr.now) (sym w.result-is)
      (changed c.args.self.now c.args.instr.now (on.Sigma w.in-Sigma.d w.in-Sigma.of) (on.Sigma w.in-Sigma.d w.in-Sigma.of) w.in-Sigma.is
      (λ room. refl))
  | in-All w ↦ subst (BecomesMoved c.args.self.now c.args.instr.now) (sym w.result-is)
      (changed c.args.self.now c.args.instr.now (on.All w.in-All.d w.in-All.of) (on.All w.in-All.d w.in-All.of) w.in-All.is (λ room. refl))
  | in-EndAll w ↦ subst (BecomesMoved c.args.self.now c.args.instr.now) (sym w.result-is) (changed c.args.self.now c.args.instr.now on.EndAll on.EndAll w.in-EndAll.is (λ room. refl))
  | in-Assume+in_ok-records-in-Assume+in_ok-types-in-Assume+in_ok-registers-in-Assume w ↦ subst (BecomesMoved c.args.self.now c.args.instr.now)
      (sym w.result-is) (changed c.args.self.now c.args.instr.now (on.Assume w.in-Assume.records w.in-Assume.types w.in-Assume.terms)
      (on.Assume w.in_ok-records-in-Assume.records w.in_ok-types-in-Assume.types w.in_ok-registers-in-Assume.field-0) w.in-Assume.is
      (λ room. (
        w.in_ok-records-in-Assume.records,
        w.in_ok-types-in-Assume.types,
        w.in_ok-registers-in-Assume.field-0,
        refl,
        w.in_ok-records-in-Assume.ensures ∙ raised c.args.self.now.first w.in-Assume.records.items room,
        w.in_ok-types-in-Assume.ensures,
        w.in_ok-registers-in-Assume.ensures,
      )))
  | in-EndAssume w ↦ subst (BecomesMoved c.args.self.now c.args.instr.now) (sym w.result-is) (changed c.args.self.now c.args.instr.now on.EndAssume on.EndAssume w.in-EndAssume.is (λ room. refl))
  | in-Either w ↦ subst (BecomesMoved c.args.self.now c.args.instr.now) (sym w.result-is)
      (changed c.args.self.now c.args.instr.now (on.Either w.in-Either.bytes) (on.Either w.in-Either.bytes) w.in-Either.is (λ room. refl))
  | in-Jump w ↦ subst (BecomesMoved c.args.self.now c.args.instr.now) (sym w.result-is)
      (changed c.args.self.now c.args.instr.now (on.Jump w.in-Jump.bytes) (on.Jump w.in-Jump.bytes) w.in-Jump.is (λ room. refl))
  | in-Not w ↦ subst (BecomesMoved c.args.self.now c.args.instr.now) (sym w.result-is) (changed c.args.self.now c.args.instr.now on.Not on.Not w.in-Not.is (λ room. refl))
  | in-EndNot w ↦ subst (BecomesMoved c.args.self.now c.args.instr.now) (sym w.result-is) (changed c.args.self.now c.args.instr.now on.EndNot on.EndNot w.in-EndNot.is (λ room. refl))
  | in_default w ↦ subst (BecomesMoved c.args.self.now c.args.instr.now) (sym w.result-is)
      (only_proceed c.args.self.now c.args.instr.now c.requires.building c.requires.matching c.requires.calling w.in_default.not-Sigma
      w.in_default.not-All w.in_default.not-EndAll w.in_default.not-Assume w.in_default.not-EndAssume w.in_default.not-Either w.in_default.not-Jump
      w.in_default.not-Not w.in_default.not-EndNot)
]
