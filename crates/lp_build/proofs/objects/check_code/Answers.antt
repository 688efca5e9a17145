use Rattle.std.proofs.Common.{subst, sym}
use Rattle.std.specs.Prelude.{IfErr, OnOk}
use Rattle.lp_build.specs.Faults.{IsOfTexts}
use Rattle.lp_build.specs.Uncoded.{IsUncoded, IsWithinCode}
use Rattle.lp_build.proofs.objects.check_code.Goals.{in-Ok, in-Err}
use Rattle.lp_build.proofs.objects.check_code.Goals as goal

pub returns-clause-refused : goal.returns-clause-refused
returns-clause-refused c = elim c.match-code_of.branch [
  | in-Ok w ↦ subst (λ r. IfErr r IsOfTexts) (sym w.result-is) tt
  | in-Err w ↦ subst (λ r. IfErr r IsOfTexts) (sym w.result-is) w.in-Err.ensures.refused
]

pub returns-clause-cause : goal.returns-clause-cause
returns-clause-cause c = λ within.
    let P = IsUncoded c.args.module.now in
    elim c.match-code_of.branch [
      | in-Ok w ↦ subst (λ r. IfErr r P) (sym w.result-is) tt
      | in-Err w ↦ subst (λ r. IfErr r P) (sym w.result-is) (w.in-Err.ensures.cause within)
    ]

pub returns-clause-within : goal.returns-clause-within
returns-clause-within c = λ within.
    let P = IsWithinCode c.args.module.now in
    elim c.match-code_of.branch [
      | in-Ok w ↦ subst (λ r. OnOk r P) (sym w.result-is) (w.in-Ok.ensures.within within)
      | in-Err w ↦ subst (λ r. OnOk r P) (sym w.result-is) tt
    ]
