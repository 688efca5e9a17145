use Rattle.std.proofs.Common.{get_or, arith}
use Rattle.std.proofs.lemmas.Option.{slice_get-get_or}
use Rattle.lp_verify.proofs.OwnTypes.{number_more}
use Rattle.lp_verify.proofs.record.numbered.Goals as goal

pub loop-register-preserved : goal.loop-register-preserved
loop-register-preserved c =
    let rs = c.args.registers.now in
    let n = c.loop-register.register-index in
    let inv = c.loop-register.invariant in
    let same = inv.0 in
    let next = c.saturating_add-number.ensures in
    let small = c.loop-register.auto.register-index-end in (
      grind arith,
      λ a. number_more rs n (get_or rs n 0) c.loop-register.number c.loop-register.numbers c.insert.new.self a (slice_get-get_or rs n 0 c.loop-register-test.true) inv.0 c.in_ok-insert.ensures.updates.0 (inv.1 a),
    )
