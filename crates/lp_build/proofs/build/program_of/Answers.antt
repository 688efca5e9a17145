use Rattle.std.proofs.Common.{inr, subst}
use Rattle.lp_module.specs.Copies.{IsProgramRefusal}
use Rattle.lp_module.specs.Program.{IsProgram}
use Rattle.lp_build.proofs.Building.{program_is}
use Rattle.lp_build.proofs.build.program_of.Goals as goal

pub returns-in-Ok-seen_of-clause-program : goal.returns-in-Ok-seen_of-clause-program
returns-in-Ok-seen_of-clause-program c =
    program_is c.args.modules.now.items c.args.own.now c.in-Some.root c.in-Ok.assembled c.in-Ok-seen_of.built c.in-Some.ensures
    (subst (λ ms. IsProgram ms c.in-Some.root c.in-Ok.assembled) c.as_slice-list.ensures.value c.in-Ok.ensures.program) c.in-Ok-seen_of.ensures

pub returns-in-Err-clause-cause : goal.returns-in-Err-clause-cause
returns-in-Err-clause-cause c = inr (
  c.in-Some.root,
  c.in-Err.fault,
  c.in-Some.ensures,
  subst (λ ms. IsProgramRefusal ms c.in-Some.root c.in-Err.fault) c.as_slice-list.ensures.value c.in-Err.ensures.refused,
  c.module_fault.ensures.same,
)
