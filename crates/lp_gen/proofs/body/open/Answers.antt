use Rattle.lp_lemmas.proofs.Results.{passed_up}
use Rattle.lp_gen.specs.inner.Using.{Lacks}
use Rattle.lp_gen.specs.inner.BodyUsing.{instr_takes}
use Rattle.lp_gen.proofs.BodyUsed.{instr_uses, instr_lacks}
use Rattle.lp_gen.proofs.body.open.Goals as goal

pub returns-clause-code : goal.returns-clause-code
returns-clause-code c = (
  c.block_here-block.result,
  c.in_ok-push.ensures.items,
  c.block_here-block.ensures.variables,
  c.block_here-block.ensures.at,
  c.block_here-block.ensures.from,
  c.in_ok-emit.ensures.code,
  c.in_ok-emit.ensures.types,
  c.in_ok-emit.ensures.registers,
)

pub returns-clause-uses : goal.returns-clause-uses
returns-clause-uses c = instr_uses c.args.instr c.in_ok-emit.ensures.types c.in_ok-emit.ensures.registers c.in_ok-emit.ensures.place c.in_ok-emit.ensures.room

pub returns-in_err-emit-clause-lacks : goal.returns-in_err-emit-clause-lacks
returns-in_err-emit-clause-lacks c =
    let e = c.in_err-emit.field-0.0 in
    passed_up c.from_residual-in_err-emit.result e (Lacks c.args.emitter.now (instr_takes c.args.instr)) c.from_residual-in_err-emit.ensures.1
    (instr_lacks c.args.emitter.now c.args.instr e c.in_err-emit.ensures.cause)
