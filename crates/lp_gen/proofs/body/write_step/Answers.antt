use Rattle.std.proofs.Common.{refl, sym, subst}
use Rattle.lp_term.specs.Nodes.{tree, type_tree}
use Rattle.lp_gen.specs.declared.plan.Step.TheVariants as on
use Rattle.lp_gen.specs.Steps.{constant_function}
use Rattle.lp_gen.specs.inner.Listing.{around_of}
use Rattle.lp_gen.specs.inner.BodyCode.{AssumedBy, IsDone}
use Rattle.lp_gen.proofs.BodySteps.{say_step, cut_step}
use Rattle.lp_gen.proofs.BodyFacts.{all_ends, assumption_ends, denial_ends, either_opens, not_opens, some_opens, all_opens, taken, starts_stay, assumption_taken}
use Rattle.lp_lemmas.proofs.Results.{passed_up}
use Rattle.lp_code.specs.declared.instruction.Instr.TheVariants as instr
use Rattle.lp_gen.specs.inner.Using.{Lacks}
use Rattle.lp_gen.specs.inner.BodyUsing.{block_step_takes}
use Rattle.lp_gen.proofs.Using.{plain_said, no_plain_code, uses_same}
use Rattle.lp_gen.proofs.BodyUsed.{step_uses, step_lacks, step_stepped, stays_stepped, atom_stepped, open_stepped, left_stepped, some_stepped, all_stepped, no_assumption_code}
use Rattle.lp_gen.proofs.body.write_step.Goals as goal

pub returns-in_ok-put_atom-in-Atom-clause-code : goal.returns-in_ok-put_atom-in-Atom-clause-code
returns-in_ok-put_atom-in-Atom-clause-code c =
    let t = c.args.tables in
    let b = t.bank.now in
    let K = constant_function b t.constants.now in
    let e = c.args.emitter.now in
    let env = c.args.environment.now in
    let bs = c.args.blocks.now.items in
    let xs = c.args.starts.now.items in
    subst (λ s. IsDone t K e c.put_atom.new.emitter env c.put_atom.new.environment bs bs xs xs s) (sym c.in-Atom.is) (
      (λ cl. taken t cl K e c.put_atom.new.emitter env c.put_atom.new.environment bs bs xs (on.Atom c.in-Atom.term) (λ q. refl)
          (say_step (AssumedBy t cl) K e c.put_atom.new.emitter (around_of b env) (around_of b c.put_atom.new.environment) bs (tree b c.in-Atom.term.0)
          c.in_ok-put_atom-in-Atom.ensures.code)),
      starts_stay t xs (on.Atom c.in-Atom.term) refl,
    )

pub returns-in_ok-emit-in-Cut-clause-code : goal.returns-in_ok-emit-in-Cut-clause-code
returns-in_ok-emit-in-Cut-clause-code c =
    let t = c.args.tables in
    let b = t.bank.now in
    let K = constant_function b t.constants.now in
    let e = c.args.emitter.now in
    let env = c.args.environment.now in
    let bs = c.args.blocks.now.items in
    let xs = c.args.starts.now.items in
    subst (λ s. IsDone t K e c.emit.new.self env env bs bs xs xs s) (sym c.in-Cut.is) (
      (λ cl. taken t cl K e c.emit.new.self env env bs bs xs on.Cut (λ q. refl) (cut_step (AssumedBy t cl) K e c.emit.new.self (around_of b env) bs
          c.in_ok-emit-in-Cut.ensures.code c.in_ok-emit-in-Cut.ensures.types c.in_ok-emit-in-Cut.ensures.registers)),
      starts_stay t xs on.Cut refl,
    )

pub returns-in_ok-open-in-Either-clause-code : goal.returns-in_ok-open-in-Either-clause-code
returns-in_ok-open-in-Either-clause-code c =
    let t = c.args.tables in
    let b = t.bank.now in
    let K = constant_function b t.constants.now in
    let e = c.args.emitter.now in
    let env = c.args.environment.now in
    let bs = c.args.blocks.now.items in
    let xs = c.args.starts.now.items in
    subst (λ s. IsDone t K e c.open.new.emitter env env bs c.open.new.blocks.items xs xs s) (sym c.in-Either.is) (
      (λ cl. taken t cl K e c.open.new.emitter env env bs c.open.new.blocks.items xs on.Either (λ q. refl)
          (either_opens (AssumedBy t cl) b K e c.open.new.emitter env bs c.open.new.blocks.items c.in_ok-open-in-Either.ensures.code)),
      starts_stay t xs
          on.Either refl,
    )

pub returns-in_ok-turn-in-Turn-clause-code : goal.returns-in_ok-turn-in-Turn-clause-code
returns-in_ok-turn-in-Turn-clause-code c =
    let t = c.args.tables in
    let b = t.bank.now in
    let K = constant_function b t.constants.now in
    let e = c.args.emitter.now in
    let env = c.args.environment.now in
    let bs = c.args.blocks.now.items in
    let xs = c.args.starts.now.items in
    subst (λ s. IsDone t K e c.turn.new.emitter env c.turn.new.environment bs c.turn.new.blocks.items xs xs s) (sym c.in-Turn.is)
    ((λ cl. taken t cl K e c.turn.new.emitter env c.turn.new.environment bs c.turn.new.blocks.items xs on.Turn (λ q. refl) (c.in_ok-turn-in-Turn.ensures.code t cl b K)), starts_stay t xs on.Turn refl)

pub returns-in-EndEither-clause-code : goal.returns-in-EndEither-clause-code
returns-in-EndEither-clause-code c =
    let t = c.args.tables in
    let b = t.bank.now in
    let K = constant_function b t.constants.now in
    let e = c.args.emitter.now in
    let env = c.args.environment.now in
    let bs = c.args.blocks.now.items in
    let xs = c.args.starts.now.items in
    subst (λ s. IsDone t K e c.end_either.new.emitter env c.end_either.new.environment bs c.end_either.new.blocks.items xs xs s) (sym c.in-EndEither.is) (
      (λ cl. taken t cl K e c.end_either.new.emitter env c.end_either.new.environment bs c.end_either.new.blocks.items xs on.EndEither (λ q. refl)
          (c.end_either.ensures.code t cl b K)),
      starts_stay t xs on.EndEither refl,
    )

pub returns-in_ok-open_some-in-Some-clause-code : goal.returns-in_ok-open_some-in-Some-clause-code
returns-in_ok-open_some-in-Some-clause-code c =
    let t = c.args.tables in
    let b = t.bank.now in
    let K = constant_function b t.constants.now in
    let e = c.args.emitter.now in
    let env = c.args.environment.now in
    let bs = c.args.blocks.now.items in
    let xs = c.args.starts.now.items in
    subst (λ s. IsDone t K e c.open_some.new.emitter env c.open_some.new.environment bs bs xs xs s) (sym c.in-Some.is) (
      (λ cl. taken t cl K e c.open_some.new.emitter env c.open_some.new.environment bs bs xs (on.Some c.in-Some.of) (λ q. refl)
          (some_opens (AssumedBy t cl) K e c.open_some.new.emitter (around_of b env) (around_of b c.open_some.new.environment) bs
          (type_tree b c.in-Some.of.0) c.in_ok-open_some-in-Some.ensures.code)),
      starts_stay t xs (on.Some c.in-Some.of) refl,
    )

pub returns-in_ok-open_all-in-All-clause-code : goal.returns-in_ok-open_all-in-All-clause-code
returns-in_ok-open_all-in-All-clause-code c =
    let t = c.args.tables in
    let b = t.bank.now in
    let K = constant_function b t.constants.now in
    let e = c.args.emitter.now in
    let env = c.args.environment.now in
    let bs = c.args.blocks.now.items in
    let xs = c.args.starts.now.items in
    subst (λ s. IsDone t K e c.open_all.new.emitter env c.open_all.new.environment bs c.open_all.new.blocks.items xs xs s) (sym c.in-All.is) (
      (λ cl. taken t cl K e c.open_all.new.emitter env c.open_all.new.environment bs c.open_all.new.blocks.items xs (on.All c.in-All.of) (λ q. refl)
          (all_opens (AssumedBy t cl) K e c.open_all.new.emitter (around_of b env) (around_of b c.open_all.new.environment) bs
          c.open_all.new.blocks.items (type_tree b c.in-All.of.0) c.in_ok-open_all-in-All.ensures.code)),
      starts_stay t xs (on.All c.in-All.of) refl,
    )

pub returns-in_ok-end-in-EndAll-clause-code : goal.returns-in_ok-end-in-EndAll-clause-code
returns-in_ok-end-in-EndAll-clause-code c =
    let t = c.args.tables in
    let b = t.bank.now in
    let K = constant_function b t.constants.now in
    let e = c.args.emitter.now in
    let env = c.args.environment.now in
    let bs = c.args.blocks.now.items in
    let xs = c.args.starts.now.items in
    subst (λ s. IsDone t K e c.end.new.emitter env c.end.new.environment bs c.end.new.blocks.items xs xs s) (sym c.in-EndAll.is) (
      (λ cl. taken t cl K e c.end.new.emitter env c.end.new.environment bs c.end.new.blocks.items xs on.EndAll (λ q. refl)
          (all_ends e c.end.new.emitter env c.end.new.environment bs c.end.new.blocks.items c.in_ok-end-in-EndAll.ensures.code t cl b K)),
      starts_stay t xs
          on.EndAll refl,
    )

pub returns-in_ok-open-in-Assume-clause-code : goal.returns-in_ok-open-in-Assume-clause-code
returns-in_ok-open-in-Assume-clause-code c =
    let t = c.args.tables in
    let b = t.bank.now in
    let K = constant_function b t.constants.now in
    let e = c.args.emitter.now in
    let env = c.args.environment.now in
    let bs = c.args.blocks.now.items in
    let xs = c.args.starts.now.items in
    subst (λ s. IsDone t K e c.open-in-Assume.new.emitter env env bs c.open-in-Assume.new.blocks.items xs c.assumption.new.all_starts.items s) (sym c.in-Assume.is) (
      (λ cl. assumption_taken t cl K e c.open-in-Assume.new.emitter env bs c.open-in-Assume.new.blocks.items xs c.assumption.new.all_starts.items c.in-Assume.number c.in_ok-instr-in-Assume.instr
          c.in_ok-instr-in-Assume.ensures.made c.in_ok-open-in-Assume.ensures.code),
      c.in_ok-instr-in-Assume.ensures.grown,
    )

pub returns-in_ok-end-in-EndAssume-clause-code : goal.returns-in_ok-end-in-EndAssume-clause-code
returns-in_ok-end-in-EndAssume-clause-code c =
    let t = c.args.tables in
    let b = t.bank.now in
    let K = constant_function b t.constants.now in
    let e = c.args.emitter.now in
    let env = c.args.environment.now in
    let bs = c.args.blocks.now.items in
    let xs = c.args.starts.now.items in
    subst (λ s. IsDone t K e c.end-in-EndAssume.new.emitter env c.end-in-EndAssume.new.environment bs c.end-in-EndAssume.new.blocks.items xs xs s) (sym c.in-EndAssume.is) (
      (λ cl. taken t cl K e c.end-in-EndAssume.new.emitter env c.end-in-EndAssume.new.environment bs c.end-in-EndAssume.new.blocks.items xs
          on.EndAssume (λ q. refl) (assumption_ends e c.end-in-EndAssume.new.emitter env c.end-in-EndAssume.new.environment bs
          c.end-in-EndAssume.new.blocks.items c.in_ok-end-in-EndAssume.ensures.code t cl b K)),
      starts_stay t xs on.EndAssume refl,
    )

pub returns-in_ok-open-in-Not-clause-code : goal.returns-in_ok-open-in-Not-clause-code
returns-in_ok-open-in-Not-clause-code c =
    let t = c.args.tables in
    let b = t.bank.now in
    let K = constant_function b t.constants.now in
    let e = c.args.emitter.now in
    let env = c.args.environment.now in
    let bs = c.args.blocks.now.items in
    let xs = c.args.starts.now.items in
    subst (λ s. IsDone t K e c.open-in-Not.new.emitter env env bs c.open-in-Not.new.blocks.items xs xs s) (sym c.in-Not.is) (
      (λ cl. taken t cl K e c.open-in-Not.new.emitter env env bs c.open-in-Not.new.blocks.items xs on.Not (λ q. refl)
          (not_opens (AssumedBy t cl) b K e c.open-in-Not.new.emitter env bs c.open-in-Not.new.blocks.items c.in_ok-open-in-Not.ensures.code)),
      starts_stay t
          xs on.Not refl,
    )

pub returns-in_ok-end-in-EndNot-clause-code : goal.returns-in_ok-end-in-EndNot-clause-code
returns-in_ok-end-in-EndNot-clause-code c =
    let t = c.args.tables in
    let b = t.bank.now in
    let K = constant_function b t.constants.now in
    let e = c.args.emitter.now in
    let env = c.args.environment.now in
    let bs = c.args.blocks.now.items in
    let xs = c.args.starts.now.items in
    subst (λ s. IsDone t K e c.end-in-EndNot.new.emitter env c.end-in-EndNot.new.environment bs c.end-in-EndNot.new.blocks.items xs xs s) (sym c.in-EndNot.is) (
      (λ cl. taken t cl K e c.end-in-EndNot.new.emitter env c.end-in-EndNot.new.environment bs c.end-in-EndNot.new.blocks.items xs on.EndNot
          (λ q. refl) (denial_ends e c.end-in-EndNot.new.emitter env c.end-in-EndNot.new.environment bs c.end-in-EndNot.new.blocks.items
          c.in_ok-end-in-EndNot.ensures.code t cl b K)),
      starts_stay t xs on.EndNot refl,
    )

pub returns-in_ok-put_atom-in-Atom-clause-uses : goal.returns-in_ok-put_atom-in-Atom-clause-uses
returns-in_ok-put_atom-in-Atom-clause-uses c =
    let t = c.args.tables in
    let b = t.bank.now in
    let K = constant_function b t.constants.now in
    let env = c.args.environment.now in
    let a = around_of b env in
    step_uses b t.type_vars t.assumptions.now K a c.args.step (on.Atom c.in-Atom.term) c.in-Atom.is (c.in_ok-put_atom-in-Atom.ensures.uses)

pub returns-in_ok-put_atom-in-Atom-clause-stepped : goal.returns-in_ok-put_atom-in-Atom-clause-stepped
returns-in_ok-put_atom-in-Atom-clause-stepped c =
    let t = c.args.tables in
    let b = t.bank.now in
    let K = constant_function b t.constants.now in
    let env = c.args.environment.now in
    let a = around_of b env in
    step_stepped b env c.put_atom.new.environment c.args.blocks.now.items c.args.blocks.now.items c.args.step (on.Atom c.in-Atom.term) c.in-Atom.is
    (atom_stepped b K c.args.emitter.now c.put_atom.new.emitter env c.put_atom.new.environment c.args.blocks.now.items c.in-Atom.term c.in_ok-put_atom-in-Atom.ensures.code)

pub returns-in_err-put_atom-in-Atom-clause-lacks : goal.returns-in_err-put_atom-in-Atom-clause-lacks
returns-in_err-put_atom-in-Atom-clause-lacks c =
    let t = c.args.tables in
    let b = t.bank.now in
    let K = constant_function b t.constants.now in
    let env = c.args.environment.now in
    let a = around_of b env in
    let e = c.in_err-put_atom-in-Atom.field-0.0 in
    passed_up c.from_residual.result e (Lacks c.args.emitter.now (block_step_takes b t.type_vars t.assumptions.now K a c.args.step)) c.from_residual.ensures.1
    (step_lacks b t.type_vars t.assumptions.now K a c.args.step (on.Atom c.in-Atom.term) e c.in-Atom.is (c.in_err-put_atom-in-Atom.ensures.lacks))

pub returns-in_ok-emit-in-Cut-clause-uses : goal.returns-in_ok-emit-in-Cut-clause-uses
returns-in_ok-emit-in-Cut-clause-uses c =
    let t = c.args.tables in
    let b = t.bank.now in
    let K = constant_function b t.constants.now in
    let env = c.args.environment.now in
    let a = around_of b env in
    step_uses b t.type_vars t.assumptions.now K a c.args.step on.Cut c.in-Cut.is (plain_said instr.Cut 1 0 c.in_ok-emit-in-Cut.ensures.types c.in_ok-emit-in-Cut.ensures.registers c.in_ok-emit-in-Cut.ensures.place c.in_ok-emit-in-Cut.ensures.room refl refl)

pub returns-in_ok-emit-in-Cut-clause-stepped : goal.returns-in_ok-emit-in-Cut-clause-stepped
returns-in_ok-emit-in-Cut-clause-stepped c =
    let t = c.args.tables in
    let b = t.bank.now in
    let K = constant_function b t.constants.now in
    let env = c.args.environment.now in
    let a = around_of b env in
    step_stepped b env env c.args.blocks.now.items c.args.blocks.now.items c.args.step on.Cut c.in-Cut.is
    (stays_stepped b env c.args.blocks.now.items on.Cut refl refl)

pub returns-in_err-emit-in-Cut-clause-lacks : goal.returns-in_err-emit-in-Cut-clause-lacks
returns-in_err-emit-in-Cut-clause-lacks c =
    let t = c.args.tables in
    let b = t.bank.now in
    let K = constant_function b t.constants.now in
    let env = c.args.environment.now in
    let a = around_of b env in
    let e = c.in_err-emit-in-Cut.field-0.0 in
    passed_up c.from_residual-in_err-emit-in-Cut.result e (Lacks c.args.emitter.now (block_step_takes b t.type_vars t.assumptions.now K a c.args.step)) c.from_residual-in_err-emit-in-Cut.ensures.1
    (step_lacks b t.type_vars t.assumptions.now K a c.args.step on.Cut e c.in-Cut.is (no_plain_code c.args.emitter.now instr.Cut 1 0 e refl refl c.in_err-emit-in-Cut.ensures.cause))

pub returns-in_ok-open-in-Either-clause-uses : goal.returns-in_ok-open-in-Either-clause-uses
returns-in_ok-open-in-Either-clause-uses c =
    let t = c.args.tables in
    let b = t.bank.now in
    let K = constant_function b t.constants.now in
    let env = c.args.environment.now in
    let a = around_of b env in
    step_uses b t.type_vars t.assumptions.now K a c.args.step on.Either c.in-Either.is (c.in_ok-open-in-Either.ensures.uses)

pub returns-in_ok-open-in-Either-clause-stepped : goal.returns-in_ok-open-in-Either-clause-stepped
returns-in_ok-open-in-Either-clause-stepped c =
    let t = c.args.tables in
    let b = t.bank.now in
    let K = constant_function b t.constants.now in
    let env = c.args.environment.now in
    let a = around_of b env in
    step_stepped b env env c.args.blocks.now.items c.open.new.blocks.items c.args.step on.Either c.in-Either.is
    (open_stepped b c.args.emitter.now c.open.new.emitter env c.args.blocks.now.items c.open.new.blocks.items (instr.Either 0) on.Either c.in_ok-open-in-Either.ensures.code refl refl)

pub returns-in_err-open-in-Either-clause-lacks : goal.returns-in_err-open-in-Either-clause-lacks
returns-in_err-open-in-Either-clause-lacks c =
    let t = c.args.tables in
    let b = t.bank.now in
    let K = constant_function b t.constants.now in
    let env = c.args.environment.now in
    let a = around_of b env in
    let e = c.in_err-open-in-Either.field-0.0 in
    passed_up c.from_residual-in_err-open-in-Either.result e (Lacks c.args.emitter.now (block_step_takes b t.type_vars t.assumptions.now K a c.args.step)) c.from_residual-in_err-open-in-Either.ensures.1
    (step_lacks b t.type_vars t.assumptions.now K a c.args.step on.Either e c.in-Either.is (c.in_err-open-in-Either.ensures.lacks))

pub returns-in_ok-turn-in-Turn-clause-uses : goal.returns-in_ok-turn-in-Turn-clause-uses
returns-in_ok-turn-in-Turn-clause-uses c =
    let t = c.args.tables in
    let b = t.bank.now in
    let K = constant_function b t.constants.now in
    let env = c.args.environment.now in
    let a = around_of b env in
    step_uses b t.type_vars t.assumptions.now K a c.args.step on.Turn c.in-Turn.is (c.in_ok-turn-in-Turn.ensures.uses)

pub returns-in_ok-turn-in-Turn-clause-stepped : goal.returns-in_ok-turn-in-Turn-clause-stepped
returns-in_ok-turn-in-Turn-clause-stepped c =
    let t = c.args.tables in
    let b = t.bank.now in
    let K = constant_function b t.constants.now in
    let env = c.args.environment.now in
    let a = around_of b env in
    step_stepped b env c.turn.new.environment c.args.blocks.now.items c.turn.new.blocks.items c.args.step on.Turn c.in-Turn.is
    (left_stepped b env c.turn.new.environment c.args.blocks.now.items c.turn.new.blocks.items on.Turn (c.in_ok-turn-in-Turn.ensures.around b) (c.in_ok-turn-in-Turn.ensures.counts b))

pub returns-in_err-turn-in-Turn-clause-lacks : goal.returns-in_err-turn-in-Turn-clause-lacks
returns-in_err-turn-in-Turn-clause-lacks c =
    let t = c.args.tables in
    let b = t.bank.now in
    let K = constant_function b t.constants.now in
    let env = c.args.environment.now in
    let a = around_of b env in
    let e = c.in_err-turn-in-Turn.field-0.0 in
    passed_up c.from_residual-in_err-turn-in-Turn.result e (Lacks c.args.emitter.now (block_step_takes b t.type_vars t.assumptions.now K a c.args.step)) c.from_residual-in_err-turn-in-Turn.ensures.1
    (step_lacks b t.type_vars t.assumptions.now K a c.args.step on.Turn e c.in-Turn.is (c.in_err-turn-in-Turn.ensures.lacks))

pub returns-in-EndEither-clause-uses : goal.returns-in-EndEither-clause-uses
returns-in-EndEither-clause-uses c =
    let t = c.args.tables in
    let b = t.bank.now in
    let K = constant_function b t.constants.now in
    let env = c.args.environment.now in
    let a = around_of b env in
    step_uses b t.type_vars t.assumptions.now K a c.args.step on.EndEither c.in-EndEither.is (c.end_either.ensures.uses)

pub returns-in-EndEither-clause-stepped : goal.returns-in-EndEither-clause-stepped
returns-in-EndEither-clause-stepped c =
    let t = c.args.tables in
    let b = t.bank.now in
    let K = constant_function b t.constants.now in
    let env = c.args.environment.now in
    let a = around_of b env in
    step_stepped b env c.end_either.new.environment c.args.blocks.now.items c.end_either.new.blocks.items c.args.step on.EndEither c.in-EndEither.is
    (left_stepped b env c.end_either.new.environment c.args.blocks.now.items c.end_either.new.blocks.items on.EndEither (c.end_either.ensures.around b) c.end_either.ensures.counts)

pub returns-in_ok-open_some-in-Some-clause-uses : goal.returns-in_ok-open_some-in-Some-clause-uses
returns-in_ok-open_some-in-Some-clause-uses c =
    let t = c.args.tables in
    let b = t.bank.now in
    let K = constant_function b t.constants.now in
    let env = c.args.environment.now in
    let a = around_of b env in
    step_uses b t.type_vars t.assumptions.now K a c.args.step (on.Some c.in-Some.of) c.in-Some.is (c.in_ok-open_some-in-Some.ensures.uses)

pub returns-in_ok-open_some-in-Some-clause-stepped : goal.returns-in_ok-open_some-in-Some-clause-stepped
returns-in_ok-open_some-in-Some-clause-stepped c =
    let t = c.args.tables in
    let b = t.bank.now in
    let K = constant_function b t.constants.now in
    let env = c.args.environment.now in
    let a = around_of b env in
    step_stepped b env c.open_some.new.environment c.args.blocks.now.items c.args.blocks.now.items c.args.step (on.Some c.in-Some.of) c.in-Some.is
    (some_stepped b c.args.emitter.now c.open_some.new.emitter env c.open_some.new.environment c.args.blocks.now.items c.in-Some.of c.in_ok-open_some-in-Some.ensures.code)

pub returns-in_err-open_some-in-Some-clause-lacks : goal.returns-in_err-open_some-in-Some-clause-lacks
returns-in_err-open_some-in-Some-clause-lacks c =
    let t = c.args.tables in
    let b = t.bank.now in
    let K = constant_function b t.constants.now in
    let env = c.args.environment.now in
    let a = around_of b env in
    let e = c.in_err-open_some-in-Some.field-0.0 in
    passed_up c.from_residual-in_err-open_some-in-Some.result e (Lacks c.args.emitter.now (block_step_takes b t.type_vars t.assumptions.now K a c.args.step)) c.from_residual-in_err-open_some-in-Some.ensures.1
    (step_lacks b t.type_vars t.assumptions.now K a c.args.step (on.Some c.in-Some.of) e c.in-Some.is (c.in_err-open_some-in-Some.ensures.lacks))

pub returns-in_ok-open_all-in-All-clause-uses : goal.returns-in_ok-open_all-in-All-clause-uses
returns-in_ok-open_all-in-All-clause-uses c =
    let t = c.args.tables in
    let b = t.bank.now in
    let K = constant_function b t.constants.now in
    let env = c.args.environment.now in
    let a = around_of b env in
    step_uses b t.type_vars t.assumptions.now K a c.args.step (on.All c.in-All.of) c.in-All.is (c.in_ok-open_all-in-All.ensures.uses)

pub returns-in_ok-open_all-in-All-clause-stepped : goal.returns-in_ok-open_all-in-All-clause-stepped
returns-in_ok-open_all-in-All-clause-stepped c =
    let t = c.args.tables in
    let b = t.bank.now in
    let K = constant_function b t.constants.now in
    let env = c.args.environment.now in
    let a = around_of b env in
    step_stepped b env c.open_all.new.environment c.args.blocks.now.items c.open_all.new.blocks.items c.args.step (on.All c.in-All.of) c.in-All.is
    (all_stepped b c.args.emitter.now c.open_all.new.emitter env c.open_all.new.environment c.args.blocks.now.items c.open_all.new.blocks.items c.in-All.of c.in_ok-open_all-in-All.ensures.code)

pub returns-in_err-open_all-in-All-clause-lacks : goal.returns-in_err-open_all-in-All-clause-lacks
returns-in_err-open_all-in-All-clause-lacks c =
    let t = c.args.tables in
    let b = t.bank.now in
    let K = constant_function b t.constants.now in
    let env = c.args.environment.now in
    let a = around_of b env in
    let e = c.in_err-open_all-in-All.field-0.0 in
    passed_up c.from_residual-in_err-open_all-in-All.result e (Lacks c.args.emitter.now (block_step_takes b t.type_vars t.assumptions.now K a c.args.step)) c.from_residual-in_err-open_all-in-All.ensures.1
    (step_lacks b t.type_vars t.assumptions.now K a c.args.step (on.All c.in-All.of) e c.in-All.is (c.in_err-open_all-in-All.ensures.lacks))

pub returns-in_ok-end-in-EndAll-clause-uses : goal.returns-in_ok-end-in-EndAll-clause-uses
returns-in_ok-end-in-EndAll-clause-uses c =
    let t = c.args.tables in
    let b = t.bank.now in
    let K = constant_function b t.constants.now in
    let env = c.args.environment.now in
    let a = around_of b env in
    step_uses b t.type_vars t.assumptions.now K a c.args.step on.EndAll c.in-EndAll.is (c.in_ok-end-in-EndAll.ensures.uses)

pub returns-in_ok-end-in-EndAll-clause-stepped : goal.returns-in_ok-end-in-EndAll-clause-stepped
returns-in_ok-end-in-EndAll-clause-stepped c =
    let t = c.args.tables in
    let b = t.bank.now in
    let K = constant_function b t.constants.now in
    let env = c.args.environment.now in
    let a = around_of b env in
    step_stepped b env c.end.new.environment c.args.blocks.now.items c.end.new.blocks.items c.args.step on.EndAll c.in-EndAll.is
    (left_stepped b env c.end.new.environment c.args.blocks.now.items c.end.new.blocks.items on.EndAll (c.in_ok-end-in-EndAll.ensures.around b) c.in_ok-end-in-EndAll.ensures.counts)

pub returns-in_err-end-in-EndAll-clause-lacks : goal.returns-in_err-end-in-EndAll-clause-lacks
returns-in_err-end-in-EndAll-clause-lacks c =
    let t = c.args.tables in
    let b = t.bank.now in
    let K = constant_function b t.constants.now in
    let env = c.args.environment.now in
    let a = around_of b env in
    let e = c.in_err-end-in-EndAll.field-0.0 in
    passed_up c.from_residual-in_err-end-in-EndAll.result e (Lacks c.args.emitter.now (block_step_takes b t.type_vars t.assumptions.now K a c.args.step)) c.from_residual-in_err-end-in-EndAll.ensures.1
    (step_lacks b t.type_vars t.assumptions.now K a c.args.step on.EndAll e c.in-EndAll.is (c.in_err-end-in-EndAll.ensures.lacks))

pub returns-in_ok-open-in-Assume-clause-uses : goal.returns-in_ok-open-in-Assume-clause-uses
returns-in_ok-open-in-Assume-clause-uses c =
    let t = c.args.tables in
    let b = t.bank.now in
    let K = constant_function b t.constants.now in
    let env = c.args.environment.now in
    let a = around_of b env in
    step_uses b t.type_vars t.assumptions.now K a c.args.step (on.Assume c.in-Assume.number) c.in-Assume.is (uses_same c.in_ok-instr-in-Assume.ensures.takes c.in_ok-open-in-Assume.ensures.uses)

pub returns-in_ok-open-in-Assume-clause-stepped : goal.returns-in_ok-open-in-Assume-clause-stepped
returns-in_ok-open-in-Assume-clause-stepped c =
    let t = c.args.tables in
    let b = t.bank.now in
    let K = constant_function b t.constants.now in
    let env = c.args.environment.now in
    let a = around_of b env in
    step_stepped b env env c.args.blocks.now.items c.open-in-Assume.new.blocks.items c.args.step (on.Assume c.in-Assume.number) c.in-Assume.is
    (open_stepped b c.args.emitter.now c.open-in-Assume.new.emitter env c.args.blocks.now.items c.open-in-Assume.new.blocks.items c.in_ok-instr-in-Assume.instr (on.Assume c.in-Assume.number) c.in_ok-open-in-Assume.ensures.code refl refl)

pub returns-in_err-instr-in-Assume-clause-lacks : goal.returns-in_err-instr-in-Assume-clause-lacks
returns-in_err-instr-in-Assume-clause-lacks c =
    let t = c.args.tables in
    let b = t.bank.now in
    let K = constant_function b t.constants.now in
    let env = c.args.environment.now in
    let a = around_of b env in
    let e = c.in_err-instr-in-Assume.field-0.0 in
    passed_up c.from_residual-in_err-instr-in-Assume.result e (Lacks c.args.emitter.now (block_step_takes b t.type_vars t.assumptions.now K a c.args.step)) c.from_residual-in_err-instr-in-Assume.ensures.1
    (step_lacks b t.type_vars t.assumptions.now K a c.args.step (on.Assume c.in-Assume.number) e c.in-Assume.is (no_assumption_code c.args.emitter.now _ e c.in_err-instr-in-Assume.ensures.many))

pub returns-in_err-open-in-Assume-clause-lacks : goal.returns-in_err-open-in-Assume-clause-lacks
returns-in_err-open-in-Assume-clause-lacks c =
    let t = c.args.tables in
    let b = t.bank.now in
    let K = constant_function b t.constants.now in
    let env = c.args.environment.now in
    let a = around_of b env in
    let e = c.in_err-open-in-Assume.field-0.0 in
    passed_up c.from_residual-in_err-open-in-Assume.result e (Lacks c.args.emitter.now (block_step_takes b t.type_vars t.assumptions.now K a c.args.step)) c.from_residual-in_err-open-in-Assume.ensures.1
    (step_lacks b t.type_vars t.assumptions.now K a c.args.step (on.Assume c.in-Assume.number) e c.in-Assume.is (subst (λ k. Lacks c.args.emitter.now k e) c.in_ok-instr-in-Assume.ensures.takes c.in_err-open-in-Assume.ensures.lacks))

pub returns-in_ok-end-in-EndAssume-clause-uses : goal.returns-in_ok-end-in-EndAssume-clause-uses
returns-in_ok-end-in-EndAssume-clause-uses c =
    let t = c.args.tables in
    let b = t.bank.now in
    let K = constant_function b t.constants.now in
    let env = c.args.environment.now in
    let a = around_of b env in
    step_uses b t.type_vars t.assumptions.now K a c.args.step on.EndAssume c.in-EndAssume.is (c.in_ok-end-in-EndAssume.ensures.uses)

pub returns-in_ok-end-in-EndAssume-clause-stepped : goal.returns-in_ok-end-in-EndAssume-clause-stepped
returns-in_ok-end-in-EndAssume-clause-stepped c =
    let t = c.args.tables in
    let b = t.bank.now in
    let K = constant_function b t.constants.now in
    let env = c.args.environment.now in
    let a = around_of b env in
    step_stepped b env c.end-in-EndAssume.new.environment c.args.blocks.now.items c.end-in-EndAssume.new.blocks.items c.args.step on.EndAssume c.in-EndAssume.is
    (left_stepped b env c.end-in-EndAssume.new.environment c.args.blocks.now.items c.end-in-EndAssume.new.blocks.items on.EndAssume (c.in_ok-end-in-EndAssume.ensures.around b) c.in_ok-end-in-EndAssume.ensures.counts)

pub returns-in_err-end-in-EndAssume-clause-lacks : goal.returns-in_err-end-in-EndAssume-clause-lacks
returns-in_err-end-in-EndAssume-clause-lacks c =
    let t = c.args.tables in
    let b = t.bank.now in
    let K = constant_function b t.constants.now in
    let env = c.args.environment.now in
    let a = around_of b env in
    let e = c.in_err-end-in-EndAssume.field-0.0 in
    passed_up c.from_residual-in_err-end-in-EndAssume.result e (Lacks c.args.emitter.now (block_step_takes b t.type_vars t.assumptions.now K a c.args.step)) c.from_residual-in_err-end-in-EndAssume.ensures.1
    (step_lacks b t.type_vars t.assumptions.now K a c.args.step on.EndAssume e c.in-EndAssume.is (c.in_err-end-in-EndAssume.ensures.lacks))

pub returns-in_ok-open-in-Not-clause-uses : goal.returns-in_ok-open-in-Not-clause-uses
returns-in_ok-open-in-Not-clause-uses c =
    let t = c.args.tables in
    let b = t.bank.now in
    let K = constant_function b t.constants.now in
    let env = c.args.environment.now in
    let a = around_of b env in
    step_uses b t.type_vars t.assumptions.now K a c.args.step on.Not c.in-Not.is (c.in_ok-open-in-Not.ensures.uses)

pub returns-in_ok-open-in-Not-clause-stepped : goal.returns-in_ok-open-in-Not-clause-stepped
returns-in_ok-open-in-Not-clause-stepped c =
    let t = c.args.tables in
    let b = t.bank.now in
    let K = constant_function b t.constants.now in
    let env = c.args.environment.now in
    let a = around_of b env in
    step_stepped b env env c.args.blocks.now.items c.open-in-Not.new.blocks.items c.args.step on.Not c.in-Not.is
    (open_stepped b c.args.emitter.now c.open-in-Not.new.emitter env c.args.blocks.now.items c.open-in-Not.new.blocks.items instr.Not on.Not c.in_ok-open-in-Not.ensures.code refl refl)

pub returns-in_err-open-in-Not-clause-lacks : goal.returns-in_err-open-in-Not-clause-lacks
returns-in_err-open-in-Not-clause-lacks c =
    let t = c.args.tables in
    let b = t.bank.now in
    let K = constant_function b t.constants.now in
    let env = c.args.environment.now in
    let a = around_of b env in
    let e = c.in_err-open-in-Not.field-0.0 in
    passed_up c.from_residual-in_err-open-in-Not.result e (Lacks c.args.emitter.now (block_step_takes b t.type_vars t.assumptions.now K a c.args.step)) c.from_residual-in_err-open-in-Not.ensures.1
    (step_lacks b t.type_vars t.assumptions.now K a c.args.step on.Not e c.in-Not.is (c.in_err-open-in-Not.ensures.lacks))

pub returns-in_ok-end-in-EndNot-clause-uses : goal.returns-in_ok-end-in-EndNot-clause-uses
returns-in_ok-end-in-EndNot-clause-uses c =
    let t = c.args.tables in
    let b = t.bank.now in
    let K = constant_function b t.constants.now in
    let env = c.args.environment.now in
    let a = around_of b env in
    step_uses b t.type_vars t.assumptions.now K a c.args.step on.EndNot c.in-EndNot.is (c.in_ok-end-in-EndNot.ensures.uses)

pub returns-in_ok-end-in-EndNot-clause-stepped : goal.returns-in_ok-end-in-EndNot-clause-stepped
returns-in_ok-end-in-EndNot-clause-stepped c =
    let t = c.args.tables in
    let b = t.bank.now in
    let K = constant_function b t.constants.now in
    let env = c.args.environment.now in
    let a = around_of b env in
    step_stepped b env c.end-in-EndNot.new.environment c.args.blocks.now.items c.end-in-EndNot.new.blocks.items c.args.step on.EndNot c.in-EndNot.is
    (left_stepped b env c.end-in-EndNot.new.environment c.args.blocks.now.items c.end-in-EndNot.new.blocks.items on.EndNot (c.in_ok-end-in-EndNot.ensures.around b) c.in_ok-end-in-EndNot.ensures.counts)

pub returns-in_err-end-in-EndNot-clause-lacks : goal.returns-in_err-end-in-EndNot-clause-lacks
returns-in_err-end-in-EndNot-clause-lacks c =
    let t = c.args.tables in
    let b = t.bank.now in
    let K = constant_function b t.constants.now in
    let env = c.args.environment.now in
    let a = around_of b env in
    let e = c.in_err-end-in-EndNot.field-0.0 in
    passed_up c.from_residual-in_err-end-in-EndNot.result e (Lacks c.args.emitter.now (block_step_takes b t.type_vars t.assumptions.now K a c.args.step)) c.from_residual-in_err-end-in-EndNot.ensures.1
    (step_lacks b t.type_vars t.assumptions.now K a c.args.step on.EndNot e c.in-EndNot.is (c.in_err-end-in-EndNot.ensures.lacks))
