use Rattle.lp_lemmas.proofs.Results.{passed_up}
use Rattle.lp_gen.specs.inner.Recorded.{types_taken}
use Rattle.lp_gen.specs.inner.Using.{Lacks}
use Rattle.lp_gen.proofs.WrittenTypes.{no_types, made_types}
use Rattle.lp_gen.proofs.Filling.{types_none, types_used, types_lacked}
use Rattle.lp_gen.proofs.record.write_types.Goals as goal

pub returns-then-not-program-clause-written : goal.returns-then-not-program-clause-written
returns-then-not-program-clause-written c = no_types c.args.program c.args.emitter.now c.args.count c.if-not-program.true

pub returns-then-not-program-clause-uses : goal.returns-then-not-program-clause-uses
returns-then-not-program-clause-uses c = types_none c.args.program c.args.emitter.now c.args.count c.if-not-program.true

pub returns-clause-written : goal.returns-clause-written
returns-clause-written c = made_types c.args.program c.args.emitter.now c.make_types.new.emitter c.args.count c.if-not-program.false c.in_ok-make_types.ensures.code

pub returns-clause-uses : goal.returns-clause-uses
returns-clause-uses c = types_used c.args.program c.args.emitter.now c.make_types.new.emitter c.args.count c.if-not-program.false c.in_ok-make_types.ensures.uses

pub returns-in_err-make_types-clause-lacks : goal.returns-in_err-make_types-clause-lacks
returns-in_err-make_types-clause-lacks c =
    let e = c.in_err-make_types.field-0.0 in
    passed_up c.from_residual.result e (Lacks c.args.emitter.now (types_taken c.args.program c.args.count)) c.from_residual.ensures.1
    (types_lacked c.args.program c.args.emitter.now c.args.count e c.if-not-program.false c.in_err-make_types.ensures.lacks)
