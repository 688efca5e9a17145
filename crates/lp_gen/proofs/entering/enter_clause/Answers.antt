use Rattle.std.proofs.Common.{◌≡◌, ◌∙◌, ◌<◌, ◌-◌, length, refl, arith, ap}
use Rattle.std.specs.Prelude.{slice_index_or, ℕ}
use Rattle.lp_term.specs.declared.node.TypeId.{TypeId}
use Rattle.lp_gen.specs.inner.Listing.{around_of}
use Rattle.lp_gen.specs.inner.Entering.{behind}
use Rattle.lp_gen.proofs.HeadNodes.{index_or}
use Rattle.lp_gen.proofs.Entered.{from_place, none_entered, one_entered, all_entered}
use Rattle.lp_lemmas.proofs.Results.{passed_up}
use Rattle.lp_gen.specs.Registers.{variables_take}
use Rattle.lp_gen.specs.inner.Using.{Lacks}
use Rattle.lp_gen.proofs.VariablesUsed.{variables_used, no_register_behind}
use Rattle.lp_gen.proofs.entering.enter_clause.Goals as goal

pub loop-at-init : goal.loop-at-init
loop-at-init c = λ b. none_entered b c.args.environment.now c.args.emitter.now.registers (length c.args.vars.now) 0 c.args.vars.now refl refl

pub loop-at-preserved : goal.loop-at-preserved
loop-at-preserved c = λ b.
    let ids = c.args.vars.now in
    let count = length c.args.vars.now in
    let place : ℕ = count - 1 - c.loop-at.at in
    let x : TypeId = slice_index_or ids place (record { 0 = 0 }) in
    let low : place < length ids = omega (arith, c.loop-at-test.true) in
    let first = c.args.emitter.now.registers in
    one_entered b (around_of b c.args.environment.now) (around_of b c.loop-at.environment) (around_of b c.push.new.self) first count c.loop-at.at
    place c.in_ok-register.register ids x (c.loop-at.invariant b)
    c.loop-at-test.true refl refl c.in_ok-register.ensures.register (index_or ids place (record { 0 = 0 }) x low) (c.in_ok-push.ensures b)

pub returns-clause-code : goal.returns-clause-code
returns-clause-code c =
    let last : length c.args.vars.now - c.loop-at.at ≡ 0 = omega (arith, c.loop-at-test.false) in
    record {
      code_stays = c.in_ok-take_registers.ensures.code;
      types_stay = c.in_ok-take_registers.ensures.types;
      registers_are = c.in_ok-take_registers.ensures.registers;
      around = λ b. c.loop-at.invariant b ∙ ap (λ n. behind (around_of b c.args.environment.now) (from_place b c.args.emitter.now.registers n c.args.vars.now)) last
          ∙ ap (behind (around_of b c.args.environment.now)) (all_entered b c.args.emitter.now.registers c.args.vars.now);
    }

pub returns-clause-uses : goal.returns-clause-uses
returns-clause-uses c =
    variables_used c.args.emitter.now c.take_registers.new.emitter (length c.args.vars.now) c.in_ok-take_registers.ensures.types c.in_ok-take_registers.ensures.registers c.in_ok-take_registers.ensures.place

pub returns-in_err-take_registers-clause-lacks : goal.returns-in_err-take_registers-clause-lacks
returns-in_err-take_registers-clause-lacks c =
    let e = c.in_err-take_registers.field-0.0 in
    passed_up c.from_residual.result e (Lacks c.args.emitter.now (variables_take (length c.args.vars.now))) c.from_residual.ensures.1 c.in_err-take_registers.ensures.lacks

pub returns-in_err-register-clause-lacks : goal.returns-in_err-register-clause-lacks
returns-in_err-register-clause-lacks c =
    let e = c.in_err-register.field-0.0 in
    passed_up c.from_residual-in_err-register.result e (Lacks c.args.emitter.now (variables_take (length c.args.vars.now))) c.from_residual-in_err-register.ensures.1
    (no_register_behind c.args.emitter.now c.args.emitter.now.registers (length c.args.vars.now - 1 - c.loop-at.at) (length c.args.vars.now) e refl (omega (arith, c.loop-at-test.true)) c.in_err-register.ensures.cause)
