use Rattle.std.proofs.Common.{◌≡◌, ◌∙◌, ◌+◌, ◌≤◌, ◌<◌, ◌^◌, suc, length, ap, refl, sym, subst, arith, true≢false}
use Rattle.std.specs.Prelude.{All, sum_by}
use Rattle.std.proofs.lemmas.List.{take_all}
use Rattle.std.proofs.lemmas.List.Elements.{All-nil}
use Rattle.std.proofs.lemmas.Option.{slice_get_read}
use Rattle.lp_code.specs.declared.record.Record.{Record}
use Rattle.lp_code.specs.Length.{Fits, length_of, AllFit}
use Rattle.lp_gen.specs.inner.Groups.{AreGroups}
use Rattle.std.specs.Prelude.{take}
use Rattle.lp_lemmas.proofs.Results.{passed_up}
use Rattle.lp_model.specs.Flattened.{goals_of, clauses_of}
use Rattle.lp_gen.specs.Limits.{goals_assume, clauses_records, counts_of_clauses, ClausesFull, ClausesPass}
use Rattle.lp_gen.specs.Contract.{ReadyClauses}
use Rattle.lp_gen.proofs.LimitsTold.{told_by_plan, told_first}
use Rattle.lp_gen.proofs.AddFits.{one_fits_more, one_full_clause}
use Rattle.lp_gen.proofs.Ready.{ready_clauses_told}
use Rattle.lp_gen.proofs.PlanDone.{take_next}
use Rattle.lp_gen.proofs.RecordsCounted.{one_clause_more, clause_counted, clauses_before}
use Rattle.lp_gen.proofs.GroupPut.{clause_written}
use Rattle.lp_gen.proofs.GroupsDenote.{groups_denote}
use Rattle.lp_gen.proofs.codes.generate.Goals as goal

pub loop-at-init : goal.loop-at-init
loop-at-init c =
    let e = c.new-records.ensures.items in (
      subst AllFit (sym e) (All-nil (λ (r : Record). All Fits r.code.items)),
      subst (All (λ (r : Record). sum_by length_of r.code.items < 2 ^ 32)) (sym e) (All-nil (λ (r : Record). sum_by length_of r.code.items < 2 ^ 32)),
      e,
      ap length e,
      λ x. x,
    )

pub loop-at-preserved : goal.loop-at-preserved
loop-at-preserved c =
    let cs = c.args.clauses.now in
    let w = c.in_ok-add.ensures.group in (
      c.in_ok-add.ensures.fit,
      c.in_ok-add.ensures.short,
      clause_written c.args.bank.now c.args.constants.now cs c.loop-at.at c.loop-at.records.items c.add.new.records.items w.0 _ _
          c.loop-at.invariant.2 (slice_get_read cs (length cs) c.loop-at.at c.index-clauses-at.result refl (omega (arith, c.loop-at-test.true)) c.index-clauses-at.is) refl w.1 w.2,
      (let n = c.in_ok-add.ensures.count in
          let i = c.loop-at.invariant.3 in
          let at = slice_get_read cs (length cs) c.loop-at.at c.index-clauses-at.result refl (omega (arith, c.loop-at-test.true)) c.index-clauses-at.is in
          let t = ap (λ l. clauses_records (clauses_of c.args.bank.now l)) (take_next c.loop-at.at cs c.index-clauses-at.result at) ∙ one_clause_more c.args.bank.now (take c.loop-at.at cs) c.index-clauses-at.result in
          omega (arith, n, i, t)),
      (let at = slice_get_read cs (length cs) c.loop-at.at c.index-clauses-at.result refl (omega (arith, c.loop-at-test.true)) c.index-clauses-at.is in
          let i = c.loop-at.invariant.3 in
          let n = clauses_before c.args.bank.now cs c.loop-at.at c.index-clauses-at.result at in
          let w = c.in_ok-check_limits.ensures.within in
          let few = w.3 in
          one_fits_more c.args.bank.now c.args.constants.now cs c.loop-at.at c.index-clauses-at.result (take_next c.loop-at.at cs c.index-clauses-at.result at) c.loop-at.invariant.4
          (c.in_ok-add.ensures.fits (omega (arith, i, n, few)))),
    )

pub returns-clause-denotes : goal.returns-clause-denotes
returns-clause-denotes c = λ κ known each.
    let b = c.args.bank.now in
    let ds = c.args.constants.now in
    let cs = c.args.clauses.now in
    let rs = c.loop-at.records.items in
    let last : c.loop-at.at ≡ length cs = omega (arith, c.loop-at-test.false, c.loop-at.auto.at-end) in
    let i = c.loop-at.invariant.3 in
    let t = ap (λ l. clauses_records (clauses_of b l)) (take_all c.loop-at.at cs (omega (arith, last))) in
    let w = c.in_ok-check_limits.ensures.within in
    let w3 = w.3 in
    let few : 0 + length rs ≤ 65535 = omega (arith, i, t, w3) in
    let gs = subst (λ l. AreGroups b ds 0 l rs) (take_all c.loop-at.at cs (omega (arith, last))) c.loop-at.invariant.2 in
    groups_denote κ rs b ds 0 cs rs gs refl (λ v e. absurd (true≢false (sym e))) few known each c.in_ok-check_limits.ensures.within.0

pub returns-clause-few : goal.returns-clause-few
returns-clause-few c =
    let b = c.args.bank.now in
    let cs = c.args.clauses.now in
    let last : c.loop-at.at ≡ length cs = omega (arith, c.loop-at-test.false, c.loop-at.auto.at-end) in
    let i = c.loop-at.invariant.3 in
    let t = ap (λ l. clauses_records (clauses_of b l)) (take_all c.loop-at.at cs (omega (arith, last))) in
    let w = c.in_ok-check_limits.ensures.within in
    let few = w.3 in
    omega (arith, i, t, few)

pub returns-clause-within : goal.returns-clause-within
returns-clause-within c =
    let b = c.args.bank.now in
    let ds = c.args.constants.now in
    let cs = c.args.clauses.now in
    let last : c.loop-at.at ≡ length cs = omega (arith, c.loop-at-test.false, c.loop-at.auto.at-end) in
    (c.in_ok-check_limits.ensures.within, subst (λ l. ClausesFull b ds l → ⊥) (take_all c.loop-at.at cs (omega (arith, last))) c.loop-at.invariant.4)

pub returns-in_err-check_limits-clause-cause : goal.returns-in_err-check_limits-clause-cause
returns-in_err-check_limits-clause-cause c =
    let b = c.args.bank.now in
    let ds = c.args.constants.now in
    let cs = c.args.clauses.now in
    let e = c.in_err-check_limits.field-0.0 in
    passed_up c.from_residual.result e (ClausesPass b ds cs) c.from_residual.ensures.1 (told_first (counts_of_clauses (clauses_of b cs)) (ClausesFull b ds cs) e c.in_err-check_limits.ensures.cause)

pub returns-in_err-add-clause-cause : goal.returns-in_err-add-clause-cause
returns-in_err-add-clause-cause c =
    let b = c.args.bank.now in
    let cs = c.args.clauses.now in
    let at = slice_get_read cs (length cs) c.loop-at.at c.index-clauses-at.result refl (omega (arith, c.loop-at-test.true)) c.index-clauses-at.is in
    let n = clause_counted b cs c.loop-at.at c.index-clauses-at.result at in
    let w = c.in_ok-check_limits.ensures.within in
    let few = w.3 in
    let i = c.loop-at.invariant.3 in
    let m = clauses_before b cs c.loop-at.at c.index-clauses-at.result at in
    passed_up c.from_residual-in_err-add.result c.in_err-add.field-0.0 (ClausesPass b c.args.constants.now cs) c.from_residual-in_err-add.ensures.1
    (told_by_plan (counts_of_clauses (clauses_of b cs)) (ClausesFull b c.args.constants.now cs) (suc (goals_assume (goals_of b c.index-clauses-at.result.body.items))) 65535 c.in_err-add.field-0.0 w (omega (arith, n, few)) c.in_err-add.ensures.cause
    (λ is. one_full_clause b c.args.constants.now cs c.loop-at.at c.index-clauses-at.result at (c.in_err-add.ensures.full (omega (arith, i, m, few)) is)))

pub returns-in_err-check_limits-clause-ready : goal.returns-in_err-check_limits-clause-ready
returns-in_err-check_limits-clause-ready c =
    let b = c.args.bank.now in
    let ds = c.args.constants.now in
    let cs = c.args.clauses.now in
    let e = c.in_err-check_limits.field-0.0 in
    passed_up c.from_residual.result e (ReadyClauses b ds cs) c.from_residual.ensures.1 (λ κ few all. ready_clauses_told κ b ds cs e few all (told_first (counts_of_clauses (clauses_of b cs)) (ClausesFull b ds cs) e c.in_err-check_limits.ensures.cause))

pub returns-in_err-add-clause-ready : goal.returns-in_err-add-clause-ready
returns-in_err-add-clause-ready c =
    let b = c.args.bank.now in
    let ds = c.args.constants.now in
    let cs = c.args.clauses.now in
    let e = c.in_err-add.field-0.0 in
    let at = slice_get_read cs (length cs) c.loop-at.at c.index-clauses-at.result refl (omega (arith, c.loop-at-test.true)) c.index-clauses-at.is in
    let n = clause_counted b cs c.loop-at.at c.index-clauses-at.result at in
    let w = c.in_ok-check_limits.ensures.within in
    let most = w.3 in
    passed_up c.from_residual-in_err-add.result e (ReadyClauses b ds cs) c.from_residual-in_err-add.ensures.1
    (λ κ few all. ready_clauses_told κ b ds cs e few all
    (told_by_plan (counts_of_clauses (clauses_of b cs)) (ClausesFull b ds cs) (suc (goals_assume (goals_of b c.index-clauses-at.result.body.items))) 65535 e w (omega (arith, n, most)) c.in_err-add.ensures.cause
    (λ is. let i = c.loop-at.invariant.3 in let m = clauses_before b cs c.loop-at.at c.index-clauses-at.result at in
    one_full_clause b ds cs c.loop-at.at c.index-clauses-at.result at (c.in_err-add.ensures.full (omega (arith, i, m, most)) is))))
