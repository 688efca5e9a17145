use Rattle.std.proofs.Common.{◌≡◌, ◌+◌, suc, arith, subst, refl}
use Rattle.lp_gen.specs.inner.Entering.{TypesMade}
use Rattle.lp_gen.proofs.TypesBegun.{no_types_made, type_made_more}
use Rattle.lp_lemmas.proofs.Results.{passed_up}
use Rattle.lp_gen.specs.Registers.{own_types_take}
use Rattle.lp_gen.specs.inner.Using.{Uses, Lacks}
use Rattle.lp_gen.proofs.Using.{uses_nothing, uses_same, same_amount}
use Rattle.lp_gen.proofs.VariablesUsed.{types_more, no_type_more, no_type_code}
use Rattle.lp_gen.proofs.entering.make_types.Goals as goal

pub loop-init : goal.loop-init
loop-init c = (no_types_made c.args.emitter.now 0 refl, uses_same (same_amount _ _ refl refl refl refl) (uses_nothing c.args.emitter.now))

pub loop-preserved : goal.loop-preserved
loop-preserved c = (
  type_made_more c.args.emitter.now c.loop.emitter c.new_type.new.self c.emit.new.self c.loop.counter c.in_ok-register.register c.loop.invariant.0 c.in_ok-register.ensures.register
      c.in_ok-register.ensures.code c.in_ok-register.ensures.types c.in_ok-register.ensures.registers c.in_ok-emit.ensures.code c.in_ok-emit.ensures.types c.in_ok-emit.ensures.registers,
  subst (λ n. Uses c.args.emitter.now c.emit.new.self (own_types_take n)) (let z : suc c.loop.counter ≡ c.loop.counter + 1 = omega arith in z)
      (types_more c.args.emitter.now c.loop.emitter c.new_type.new.self c.emit.new.self c.loop.counter c.in_ok-register.register c.loop.invariant.1 c.in_ok-register.ensures.types c.in_ok-register.ensures.registers
      c.in_ok-register.ensures.place c.in_ok-emit.ensures.types c.in_ok-emit.ensures.registers c.in_ok-emit.ensures.place),
)

pub returns-clause-code : goal.returns-clause-code
returns-clause-code c =
    let last : c.loop.counter ≡ c.args.count = omega (arith, c.loop-test.false, c.loop.auto.counter-end) in
    subst (TypesMade c.args.emitter.now c.loop.emitter) last c.loop.invariant.0

pub returns-clause-uses : goal.returns-clause-uses
returns-clause-uses c =
    let last : c.loop.counter ≡ c.args.count = omega (arith, c.loop-test.false, c.loop.auto.counter-end) in
    subst (λ n. Uses c.args.emitter.now c.loop.emitter (own_types_take n)) last c.loop.invariant.1

pub returns-in_err-register-clause-lacks : goal.returns-in_err-register-clause-lacks
returns-in_err-register-clause-lacks c =
    let e = c.in_err-register.field-0.0 in
    passed_up c.from_residual.result e (Lacks c.args.emitter.now (own_types_take c.args.count)) c.from_residual.ensures.1
    (no_type_more c.args.emitter.now c.loop.emitter c.loop.counter c.args.count e c.loop.invariant.1 (omega (arith, c.loop-test.true)) c.in_err-register.ensures.cause)

pub returns-in_err-emit-clause-lacks : goal.returns-in_err-emit-clause-lacks
returns-in_err-emit-clause-lacks c =
    let e = c.in_err-emit.field-0.0 in
    passed_up c.from_residual-in_err-emit.result e (Lacks c.args.emitter.now (own_types_take c.args.count)) c.from_residual-in_err-emit.ensures.1
    (no_type_code c.args.emitter.now c.loop.emitter c.new_type.new.self c.loop.counter c.args.count c.in_ok-register.register e c.loop.invariant.1 (omega (arith, c.loop-test.true))
    c.in_ok-register.ensures.place c.in_err-emit.ensures.cause)
