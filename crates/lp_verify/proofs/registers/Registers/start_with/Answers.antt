use Rattle.std.proofs.Common.{◌∙◌, refl, arith}
use Rattle.lp_lemmas.proofs.Lists.{get_read}
use Rattle.lp_verify.proofs.KeptRegisters.{none_filled, one_filled, all_filled}
use Rattle.lp_verify.proofs.registers.Registers.start_with.Goals as goal

pub loop-value-init : goal.loop-value-init
loop-value-init g c = (λ r. refl, λ few e none. (refl, none_filled c.args.values.now c.args.self.now e none))

pub loop-value-preserved : goal.loop-value-preserved
loop-value-preserved g c =
    let ts = c.args.values.now in
    let n = c.loop-value.value-index in
    let inv = c.loop-value.invariant in
    let t = c.value-item.result in
    let s = c.saturating_add-register.ensures in
    let below = c.loop-value-test.true in (
      λ r. c.hold.ensures.ever r ∙ inv.0 r,
      λ few e none.
          let q = inv.1 few e none in
          let d = q.0 in
          (omega (arith, s, d, few, below), one_filled n c.loop-value.register t ts c.loop-value.self c.hold.new.self (get_read ts ts n t t refl below c.value-item.is) d q.1 c.in_ok-hold.ensures.trail c.in_ok-hold.ensures.held),
    )

pub returns-clause-filled : goal.returns-clause-filled
returns-clause-filled g c = λ few e none.
    let n = c.loop-value.value-index in
    let q = c.loop-value.invariant.1 few e none in
    let high = c.loop-value-test.false in
    let low = c.loop-value.auto.value-index-end in
    all_filled n c.args.values.now c.loop-value.self (omega (arith, high, low)) q.1
