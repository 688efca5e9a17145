use Rattle.std.proofs.Common.{◌≡◌, arith}
use Rattle.lp_infer.proofs.Acting.{no_fresh, more_fresh, fresh_as}
use Rattle.lp_infer.proofs.generate.Typing.new_variables.Goals as goal

pub loop-init : goal.loop-init
loop-init c = no_fresh c.args.self.now c.new-ids.result.items c.new-ids.ensures.items

pub loop-preserved : goal.loop-preserved
loop-preserved c = more_fresh c.args.self.now c.loop.self c.new_variable.new.self c.loop.counter c.loop.ids.items c.push.new.self.items c.in_ok-id.id c.loop.invariant c.in_ok-id.ensures c.in_ok-push.ensures.items

pub returns : goal.returns
returns c =
    fresh_as c.args.self.now c.loop.self c.loop.counter c.args.count c.loop.ids.items (let e : c.loop.counter ≡ c.args.count = omega (arith, c.loop-test.false, c.loop.auto.counter-end) in e) c.loop.invariant
