use Rattle.std.proofs.Common.{◌≡◌, ◌∙◌, ap, arith}
use Rattle.lp_code.specs.Denote.{from_zero}
use Rattle.lp_gen.proofs.AssumptionPut.{zero_more}
use Rattle.lp_gen.proofs.record.all_types.Goals as goal

pub loop-register-init : goal.loop-register-init
loop-register-init c = c.new-types.ensures.items

pub loop-register-preserved : goal.loop-register-preserved
loop-register-preserved c = zero_more c.loop-register.register c.loop-register.types.items c.push.new.self.items c.loop-register.invariant c.in_ok-push.ensures.items

pub returns : goal.returns
returns c =
    let last : c.loop-register.register ≡ c.args.type_vars = omega (arith, c.loop-register-test.false, c.loop-register.auto.register-end) in
    c.loop-register.invariant ∙ ap from_zero last
