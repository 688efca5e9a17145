use Rattle.lp_lemmas.proofs.Results.{passed_up}
use Rattle.lp_gen.specs.inner.Using.{Lacks}
use Rattle.lp_gen.specs.inner.BodyUsing.{instr_takes}
use Rattle.lp_gen.proofs.BodyUsed.{instr_uses, instr_lacks, ended_by}
use Rattle.lp_gen.proofs.body.end.Goals as goal

pub returns-clause-code : goal.returns-clause-code
returns-clause-code c =
    ended_by c.args.emitter.now c.emit.new.self c.args.environment.now c.leave-block.new.environment c.args.blocks.now.items c.leave-block.new.blocks.items c.args.instr c.leave-block.result
    c.leave-block.ensures.last c.leave-block.ensures.left c.in_ok-emit.ensures.code c.in_ok-emit.ensures.types c.in_ok-emit.ensures.registers

pub returns-clause-uses : goal.returns-clause-uses
returns-clause-uses c = instr_uses c.args.instr c.in_ok-emit.ensures.types c.in_ok-emit.ensures.registers c.in_ok-emit.ensures.place c.in_ok-emit.ensures.room

pub returns-clause-around : goal.returns-clause-around
returns-clause-around c = c.leave-block.ensures.around

pub returns-clause-counts : goal.returns-clause-counts
returns-clause-counts c = c.leave-block.ensures.counts

pub returns-in_err-emit-clause-lacks : goal.returns-in_err-emit-clause-lacks
returns-in_err-emit-clause-lacks c =
    let e = c.in_err-emit.field-0.0 in
    passed_up c.from_residual.result e (Lacks c.args.emitter.now (instr_takes c.args.instr)) c.from_residual.ensures.1 (instr_lacks c.args.emitter.now c.args.instr e c.in_err-emit.ensures.cause)
