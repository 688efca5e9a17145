use Rattle.std.proofs.Common.{subst, sym}
use Rattle.std.specs.Prelude.{IfErr, OnOk}
use Rattle.lp_gen.specs.Limits.{QueryWithin}
use Rattle.lp_lines.specs.Placed.{IsCauseOf}
use Rattle.lp_load.specs.Refused.{IsOverCode}
use Rattle.lp_load.proofs.query.within_code.Goals.{in-Ok, in-Err}
use Rattle.lp_load.proofs.query.within_code.Goals as goal

pub returns-clause-refused : goal.returns-clause-refused
returns-clause-refused c = λ text. elim c.match-generate_query.branch [
  | in-Ok w ↦ subst (λ r. IfErr r (IsCauseOf text)) (sym w.result-is) tt
  | in-Err w ↦ subst (λ r. IfErr r (IsCauseOf text)) (sym w.result-is) (w.of_generator.ensures.refused text)
]

pub returns-clause-cause : goal.returns-clause-cause
returns-clause-cause c =
    let P = IsOverCode c.args.bank.now c.args.constants.now c.args.typed.now c.args.goals.now in
    elim c.match-generate_query.branch [
      | in-Ok w ↦ subst (λ r. IfErr r P) (sym w.result-is) tt
      | in-Err w ↦ subst (λ r. IfErr r P) (sym w.result-is) (w.in-Err.refusal, w.in-Err.ensures.cause, w.of_generator.ensures.tells)
    ]

pub returns-clause-within : goal.returns-clause-within
returns-clause-within c =
    let P = QueryWithin c.args.bank.now c.args.constants.now c.args.typed.now c.args.goals.now in
    elim c.match-generate_query.branch [
      | in-Ok w ↦ subst (λ r. OnOk r P) (sym w.result-is) w.in-Ok.ensures.within
      | in-Err w ↦ subst (λ r. OnOk r P) (sym w.result-is) tt
    ]
