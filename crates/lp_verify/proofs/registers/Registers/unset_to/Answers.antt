use Rattle.std.proofs.Common.{◌≡◌, ◌∙◌, suc, length, ap, refl, arith}
use Rattle.lp_lemmas.proofs.Lists.{length_push_suc}
use Rattle.lp_verify.specs.declared.registers.Registers.{Registers}
use Rattle.lp_verify.proofs.KeptRegisters.{nothing_cut, one_cut, cut_there}
use Rattle.lp_verify.proofs.registers.Registers.unset_to.Goals as goal

pub loop-self-init : goal.loop-self-init
loop-self-init g c = (omega arith, nothing_cut c.args.self.now)

pub loop-self-preserved : goal.loop-self-preserved
loop-self-preserved g c =
    let first = c.args.self.now in
    let old = c.loop-self.self in
    let new : Registers _ = record { started = old.started; made = old.made; held = c.remove.new.self; trail = c.pop.new.self } in
    let d = c.in-Some.register in
    let items = c.in-Some.ensures.items in
    let len : length old.trail.items ≡ suc (length new.trail.items) = ap length items ∙ length_push_suc new.trail.items d in
    let count = c.len.ensures ∙ old.trail.ok.0 in
    let high = c.loop-self-test.true in
    (omega (arith, len, count, high), one_cut first old new d c.loop-self.invariant.1 items (λ r. c.remove.ensures.updates.0 r) (λ r. refl))

pub loop-self-smaller : goal.loop-self-smaller
loop-self-smaller g c =
    let old = c.loop-self.self in
    let len : length old.trail.items ≡ suc (length c.pop.new.self.items) = ap length c.in-Some.ensures.items ∙ length_push_suc c.pop.new.self.items c.in-Some.register in
    omega (arith, len)

pub returns : goal.returns
returns g c =
    let old = c.loop-self.self in
    let count = c.len.ensures ∙ old.trail.ok.0 in
    let low = c.loop-self-test.false in
    let inv = c.loop-self.invariant in
    cut_there c.args.height c.args.self.now old inv.0 (omega (arith, count, low)) inv.1

pub returns-in_default : goal.returns-in_default
returns-in_default g c =
    let none = c.in_default.ensures.cases.0 in
    let count = c.len.ensures in
    let high = c.loop-self-test.true in
    absurd (omega (arith, none, count, high))
