use Rattle.std.proofs.Common.{◌≡◌, ◌∙◌, [], sym, subst}
use Rattle.std.proofs.lemmas.List.{map-id}
use Rattle.std.proofs.lemmas.Iterator.{YieldsList-from_slice}
use Rattle.std.proofs.lemmas.Iterator.Consumers.{YieldsList-end, YieldsList-from_copied, YieldsList-turn, YieldsList-so_far}
use Rattle.lp_lemmas.proofs.Results.{passed_up}
use Rattle.lp_gen.specs.Steps.{constant_function}
use Rattle.lp_gen.specs.inner.Listing.{around_of}
use Rattle.lp_gen.specs.inner.BodyCode.{AreDone}
use Rattle.lp_gen.specs.inner.Using.{Uses, Lacks}
use Rattle.lp_gen.specs.inner.BodyUsing.{block_steps_take}
use Rattle.lp_gen.proofs.Using.{part_of}
use Rattle.lp_gen.proofs.BodyFacts.{no_steps_yet, starts_none, step_more, steps_end}
use Rattle.lp_gen.proofs.BodyUsed.{used_begins, used_next, used_all, used_lacks}
use Rattle.lp_gen.proofs.body.write_steps.Goals as goal

pub loop-step-init : goal.loop-step-init
loop-step-init c =
    let t = c.args.tables in
    let b = t.bank.now in
    let K = constant_function b t.constants.now in (
      no_steps_yet t K c.args.emitter.now c.args.environment.now c.new-blocks.result.items c.args.starts.now.items c.new-blocks.ensures.items,
      starts_none t c.args.starts.now.items,
      λ set. used_begins b t.type_vars t.assumptions.now K c.args.emitter.now c.args.environment.now c.new-blocks.result.items c.new-blocks.ensures.items set,
    )

pub loop-step-preserved : goal.loop-step-preserved
loop-step-preserved c =
    let t = c.args.tables in
    let b = t.bank.now in
    let K = constant_function b t.constants.now in
    let more = step_more t K c.args.emitter.now c.loop-step.emitter c.write_step.new.emitter c.args.environment.now c.loop-step.environment c.write_step.new.environment
    c.loop-step.blocks.items c.write_step.new.blocks.items c.args.starts.now.items c.loop-step.starts.items c.write_step.new.starts.items c.loop-step.yielded c.in-Some.step
    (c.loop-step.invariant.0, c.loop-step.invariant.1) c.in_ok-write_step.ensures.code.0 c.in_ok-write_step.ensures.code.1 in (
      more.0,
      more.1,
      λ set. used_next b t.type_vars t.assumptions.now K c.args.emitter.now c.loop-step.emitter c.write_step.new.emitter (around_of b c.args.environment.now) c.loop-step.environment
          c.write_step.new.environment c.loop-step.blocks.items c.write_step.new.blocks.items c.loop-step.yielded c.in-Some.step (c.loop-step.invariant.2 set) c.in_ok-write_step.ensures.uses
          c.in_ok-write_step.ensures.stepped,
    )

pub returns-clause-code : goal.returns-clause-code
returns-clause-code c =
    let b = c.args.tables.bank.now in
    let K = constant_function b c.args.tables.constants.now in
    let whole : c.loop-step.yielded ≡ c.args.steps.now = sym (map-id c.loop-step.yielded)
    ∙ (YieldsList-end (YieldsList-from_copied (YieldsList-from_slice c.args.steps.now cc)) c.loop-step.yielded _ c.loop-step.yielded_by _ _ c.in-None.is c.next.ensures.steps).0 in
    subst (AreDone c.args.tables K c.args.emitter.now c.loop-step.emitter c.args.environment.now c.loop-step.environment c.args.starts.now.items c.loop-step.starts.items) whole (
      steps_end c.args.tables K c.args.emitter.now c.loop-step.emitter c.args.environment.now c.loop-step.environment c.loop-step.blocks.items c.args.starts.now.items c.loop-step.starts.items
          c.loop-step.yielded c.loop-step.invariant.0,
      c.loop-step.invariant.1,
    )

pub returns-clause-uses : goal.returns-clause-uses
returns-clause-uses c = λ set.
    let t = c.args.tables in
    let b = t.bank.now in
    let K = constant_function b t.constants.now in
    let a = around_of b c.args.environment.now in
    let whole : c.loop-step.yielded ≡ c.args.steps.now = sym (map-id c.loop-step.yielded)
    ∙ (YieldsList-end (YieldsList-from_copied (YieldsList-from_slice c.args.steps.now cc)) c.loop-step.yielded _ c.loop-step.yielded_by _ _ c.in-None.is c.next.ensures.steps).0 in
    subst (λ l. Uses c.args.emitter.now c.loop-step.emitter (block_steps_take b t.type_vars t.assumptions.now K a [] l)) whole
    (used_all b t.type_vars t.assumptions.now K c.args.emitter.now c.loop-step.emitter a c.loop-step.environment c.loop-step.blocks.items c.loop-step.yielded (c.loop-step.invariant.2 set))

pub returns-in_err-write_step-clause-lacks : goal.returns-in_err-write_step-clause-lacks
returns-in_err-write_step-clause-lacks c = λ set.
    let t = c.args.tables in
    let b = t.bank.now in
    let K = constant_function b t.constants.now in
    let a = around_of b c.args.environment.now in
    let road = YieldsList-from_copied (YieldsList-from_slice c.args.steps.now cc) in
    let turn = YieldsList-turn road c.loop-step.yielded _ c.loop-step.yielded_by _ _ c.in-Some.step c.in-Some.is c.next.ensures.steps in
    let so = YieldsList-so_far road c.loop-step.yielded _ c.loop-step.yielded_by in
    let here = part_of c.loop-step.yielded c.args.steps.now c.in-Some.step so turn in
    let e = c.in_err-write_step.field-0.0 in
    passed_up c.from_residual.result e (Lacks c.args.emitter.now (block_steps_take b t.type_vars t.assumptions.now K a [] c.args.steps.now)) c.from_residual.ensures.1
    (used_lacks b t.type_vars t.assumptions.now K c.args.emitter.now c.loop-step.emitter a c.loop-step.environment c.loop-step.blocks.items c.loop-step.yielded c.args.steps.now c.in-Some.step e here
    (c.loop-step.invariant.2 set) c.in_err-write_step.ensures.lacks)
