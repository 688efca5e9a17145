use Rattle.lp_gen.proofs.Using.{uses_nothing}
use Rattle.lp_gen.proofs.BodyUsed.{uses_kept, right_ended_by}
use Rattle.lp_gen.proofs.body.end_either.Goals as goal

pub returns-clause-code : goal.returns-clause-code
returns-clause-code c =
    right_ended_by c.args.emitter.now c.close_side.new.emitter c.args.environment.now c.leave-right.new.environment c.args.blocks.now.items c.leave-right.new.blocks.items c.leave-right.result
    c.leave-right.ensures.last c.leave-right.ensures.left c.close_side.ensures.patched c.close_side.ensures.types c.close_side.ensures.registers

pub returns-clause-uses : goal.returns-clause-uses
returns-clause-uses c = uses_kept (uses_nothing c.args.emitter.now) c.close_side.ensures.types c.close_side.ensures.registers c.close_side.ensures.place

pub returns-clause-around : goal.returns-clause-around
returns-clause-around c = c.leave-right.ensures.around

pub returns-clause-counts : goal.returns-clause-counts
returns-clause-counts c = c.leave-right.ensures.counts
