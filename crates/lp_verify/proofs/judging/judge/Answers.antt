use Rattle.std.proofs.Common.{◌∙◌, ap, refl, sym, subst, arith}
use Rattle.lp_code.specs.Denote.{is_set_by_all}
use Rattle.lp_verify.specs.inner.Alls.{AllsAre}
use Rattle.lp_verify.proofs.AllsKept.{no_alls, alls_more}
use Rattle.lp_verify.specs.Scheme.{tables_in}
use Rattle.lp_verify.specs.inner.At.{FaultsGoOn, AreNamedBefore}
use Rattle.lp_verify.proofs.Faults.{IsRecordRan, none_yet, record_passed, record_refused, no_more_records, none_left}
use Rattle.lp_verify.proofs.Names.{record_named}
use Rattle.lp_verify.proofs.judging.judge.Goals as goal

pub loop-record-init : goal.loop-record-init
loop-record-init c = (
  refl,
  λ short. none_yet (tables_in c.args.tables.now) c.args.records.now c.in_ok-shared.shared c.in_ok-shared.ensures.0
      (c.in_ok-shared.ensures.1 (tables_in c.args.tables.now)),
  λ n. c.in_ok-shared.ensures.0 n,
  subst (AllsAre c.args.records.now 0)
      (sym c.new-alls.ensures) (no_alls c.args.records.now),
)

pub loop-record-preserved : goal.loop-record-preserved
loop-record-preserved c =
    let t = tables_in c.args.tables.now in
    let all = c.args.records.now in
    let n = c.loop-record.record-index in
    let inv = c.loop-record.invariant in
    let x = c.loop-record.shared in
    let y = c.judge_record.new.shared in
    let m = x.named in
    let named : AreNamedBefore c.loop-record.number all m = subst (λ k. AreNamedBefore k all m) (sym inv.0) inv.2 in
    let alls : AllsAre all c.loop-record.number c.loop-record.alls.records.items = subst (λ k. AllsAre all k c.loop-record.alls.records.items) (sym inv.0) inv.3 in (
      grind arith,
      λ short.
          record_passed t all x y n c.loop-record.number c.record-item.result inv.0 c.loop-record-test.true c.record-item.is short (inv.1 short)
          (subst (IsRecordRan t all x y c.loop-record.number c.record-item.result) c.in_default.is (λ before there given low keeps s. c.in_ok-at.ensures.0 before there given low alls keeps named s)),
      record_named all n c.record-item.result m y.named c.loop-record-test.true c.record-item.is inv.2 (c.in_ok-at.ensures.1 c.in_default.is),
      alls_more all n c.record-item.result c.loop-record.alls.records.items c.add.new.self.records.items inv.3 c.loop-record-test.true c.record-item.is (c.in_ok-add.ensures.0, c.in_ok-add.ensures.1, λ r. c.in_ok-add.ensures.2 r ∙ ap (λ is. is_set_by_all is r) c.as_slice.ensures.value),
    )

pub returns-in-Some : goal.returns-in-Some
returns-in-Some c =
    let t = tables_in c.args.tables.now in
    let all = c.args.records.now in
    let n = c.loop-record.record-index in
    let inv = c.loop-record.invariant in
    let x = c.loop-record.shared in
    let y = c.judge_record.new.shared in
    let m = x.named in
    let named : AreNamedBefore c.loop-record.number all m = subst (λ k. AreNamedBefore k all m) (sym inv.0) inv.2 in
    let alls : AllsAre all c.loop-record.number c.loop-record.alls.records.items = subst (λ k. AllsAre all k c.loop-record.alls.records.items) (sym inv.0) inv.3 in
    λ short.
    record_refused t all x y n c.loop-record.number c.record-item.result c.in-Some.at c.as_offset.result c.in-Some.rule inv.0 c.loop-record-test.true c.record-item.is short (inv.1 short)
    (subst (IsRecordRan t all x y c.loop-record.number c.record-item.result) c.in-Some.is (λ before there given low keeps s. c.in_ok-at.ensures.0 before there given low alls keeps named s)) c.as_offset.ensures

pub returns : goal.returns
returns c =
    let t = tables_in c.args.tables.now in
    let all = c.args.records.now in
    let x = c.loop-record.shared in
    let n = c.loop-record.record-index in
    λ short. no_more_records t all x n (subst (FaultsGoOn t all x n) (none_left all all n refl (omega (arith, c.loop-record-test.false))) (c.loop-record.invariant.1 short))
