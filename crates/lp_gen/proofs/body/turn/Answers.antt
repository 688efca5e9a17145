use Rattle.std.proofs.Common.{refl}
use Rattle.lp_lemmas.proofs.Results.{passed_up}
use Rattle.lp_code.specs.declared.instruction.Instr.TheVariants as instr
use Rattle.lp_gen.specs.Registers.{plain_code}
use Rattle.lp_gen.specs.inner.Using.{Uses, Lacks}
use Rattle.lp_gen.proofs.Using.{plain_said, no_plain_code}
use Rattle.lp_gen.proofs.BodyUsed.{uses_kept, turned_by, turned_counts}
use Rattle.lp_gen.proofs.body.turn.Goals as goal

pub returns-clause-code : goal.returns-clause-code
returns-clause-code c =
    turned_by c.args.emitter.now c.emit.new.self c.close_side.new.emitter c.args.environment.now c.leave-left.new.environment c.args.blocks.now.items c.leave-left.new.blocks.items
    c.push.new.self.items c.leave-left.result c.block_here-right.result c.leave-left.ensures.last c.leave-left.ensures.left c.block_here-right.ensures.variables c.block_here-right.ensures.at
    c.block_here-right.ensures.from c.in_ok-emit.ensures.code c.in_ok-emit.ensures.types c.in_ok-emit.ensures.registers c.close_side.ensures.patched c.close_side.ensures.types
    c.close_side.ensures.registers c.in_ok-push.ensures.items

pub returns-clause-uses : goal.returns-clause-uses
returns-clause-uses c =
    let jump : Uses c.args.emitter.now c.emit.new.self (plain_code 5 0) =
    plain_said (instr.Jump 0) 5 0 c.in_ok-emit.ensures.types c.in_ok-emit.ensures.registers c.in_ok-emit.ensures.place c.in_ok-emit.ensures.room refl refl in
    uses_kept jump c.close_side.ensures.types c.close_side.ensures.registers c.close_side.ensures.place

pub returns-clause-around : goal.returns-clause-around
returns-clause-around c = c.leave-left.ensures.around

pub returns-clause-counts : goal.returns-clause-counts
returns-clause-counts c = λ b.
    turned_counts b c.args.environment.now c.leave-left.new.environment c.args.blocks.now.items c.leave-left.new.blocks.items c.push.new.self.items c.block_here-right.result
    (c.leave-left.ensures.around b) c.leave-left.ensures.counts c.block_here-right.ensures.variables c.in_ok-push.ensures.items

pub returns-in_err-emit-clause-lacks : goal.returns-in_err-emit-clause-lacks
returns-in_err-emit-clause-lacks c =
    let e = c.in_err-emit.field-0.0 in
    passed_up c.from_residual.result e (Lacks c.args.emitter.now (plain_code 5 0)) c.from_residual.ensures.1
    (no_plain_code c.args.emitter.now (instr.Jump 0) 5 0 e refl refl c.in_err-emit.ensures.cause)
