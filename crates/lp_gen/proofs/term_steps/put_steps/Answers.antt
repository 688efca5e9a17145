use Rattle.lp_gen.proofs.StepsUsed.{stack_next, stacked_at, steps_use_next, steps_lack}
use Rattle.lp_gen.proofs.Using.{uses_nothing, part_of}
use Rattle.lp_gen.specs.inner.Stacked.{IsStacked, stack_behind}
use Rattle.lp_gen.specs.inner.Listing.{plain_step}
use Rattle.lp_gen.specs.Registers.{steps_take}
use Rattle.lp_gen.specs.inner.Using.{Lacks, Uses}
use Rattle.lp_lemmas.proofs.Results.{passed_up}
use Rattle.std.proofs.Common.{◌≡◌, ◌∙◌, ap, sym, subst, length, map}
use Rattle.std.specs.Prelude.{slice_index_or}
use Rattle.std.proofs.lemmas.List.{map-id}
use Rattle.std.proofs.lemmas.Iterator.{YieldsList-from_slice}
use Rattle.std.proofs.lemmas.Iterator.Consumers.{YieldsList-end, YieldsList-from_copied, YieldsList-turn, YieldsList-so_far}
use Rattle.lp_gen.specs.inner.TermSteps.{StepsPut}
use Rattle.lp_gen.proofs.StepPut.{no_steps, term_of_steps}
use Rattle.lp_gen.proofs.term_steps.put_steps.Goals as goal

pub loop-step-init : goal.loop-step-init
loop-step-init c = (no_steps c.args.bank.now c.args.emitter.now c.new-made.result.items c.new-made.ensures.items, ap length c.new-made.ensures.items, uses_nothing c.args.emitter.now)

pub loop-step-preserved : goal.loop-step-preserved
loop-step-preserved c = (
  c.in_ok-put_step.ensures.code c.args.emitter.now c.loop-step.yielded c.loop-step.invariant.0,
  stack_next c.args.bank.now 0 (length c.put_step.new.made.items) c.loop-step.yielded c.in-Some.step
      (c.in_ok-put_step.ensures.count ∙ ap (λ d. stack_behind d (plain_step c.args.bank.now c.in-Some.step)) c.loop-step.invariant.1),
  steps_use_next c.args.bank.now c.args.emitter.now c.loop-step.emitter c.put_step.new.emitter c.loop-step.yielded c.in-Some.step c.loop-step.invariant.2 c.in_ok-put_step.ensures.uses,
)

pub returns-clause-code : goal.returns-clause-code
returns-clause-code c =
    let whole : c.loop-step.yielded ≡ c.args.steps.now = sym (map-id c.loop-step.yielded)
    ∙ (YieldsList-end (YieldsList-from_copied (YieldsList-from_slice c.args.steps.now cc)) c.loop-step.yielded _ c.loop-step.yielded_by _ _ c.in-None.is c.next.ensures.steps).0 in
    term_of_steps c.args.bank.now c.args.emitter.now c.loop-step.emitter c.args.steps.now c.loop-step.made.items c.register_at.result
    (subst (λ l. StepsPut c.args.bank.now c.args.emitter.now c.loop-step.emitter l c.loop-step.made.items) whole c.loop-step.invariant.0) (c.register_at.ensures
    ∙ ap (λ l. slice_index_or l 0 0) c.as_slice.ensures.value)

pub returns-clause-uses : goal.returns-clause-uses
returns-clause-uses c =
    let whole : c.loop-step.yielded ≡ c.args.steps.now = sym (map-id c.loop-step.yielded)
    ∙ (YieldsList-end (YieldsList-from_copied (YieldsList-from_slice c.args.steps.now cc)) c.loop-step.yielded _ c.loop-step.yielded_by _ _ c.in-None.is c.next.ensures.steps).0 in
    subst (λ l. Uses c.args.emitter.now c.loop-step.emitter (steps_take (map (plain_step c.args.bank.now) l))) whole c.loop-step.invariant.2

pub put_step-requires : goal.put_step-requires
put_step-requires c =
    let road = YieldsList-from_copied (YieldsList-from_slice c.args.steps.now cc) in
    let turn = YieldsList-turn road c.loop-step.yielded _ c.loop-step.yielded_by _ _ c.in-Some.step c.in-Some.is c.next.ensures.steps in
    let so = YieldsList-so_far road c.loop-step.yielded _ c.loop-step.yielded_by in
    let here = part_of c.loop-step.yielded c.args.steps.now c.in-Some.step so turn in
    subst (λ d. IsStacked d (plain_step c.args.bank.now c.in-Some.step)) (sym c.loop-step.invariant.1) (stacked_at c.args.bank.now 0 c.loop-step.yielded c.args.steps.now c.in-Some.step here c.requires)

pub returns-in_err-put_step-clause-lacks : goal.returns-in_err-put_step-clause-lacks
returns-in_err-put_step-clause-lacks c =
    let road = YieldsList-from_copied (YieldsList-from_slice c.args.steps.now cc) in
    let turn = YieldsList-turn road c.loop-step.yielded _ c.loop-step.yielded_by _ _ c.in-Some.step c.in-Some.is c.next.ensures.steps in
    let so = YieldsList-so_far road c.loop-step.yielded _ c.loop-step.yielded_by in
    let here = part_of c.loop-step.yielded c.args.steps.now c.in-Some.step so turn in
    let e = c.in_err-put_step.field-0.0 in
    passed_up c.from_residual.result e (Lacks c.args.emitter.now (steps_take (map (plain_step c.args.bank.now) c.args.steps.now))) c.from_residual.ensures.1
    (steps_lack c.args.bank.now c.args.emitter.now c.loop-step.emitter c.loop-step.yielded c.args.steps.now c.in-Some.step e here c.loop-step.invariant.2 c.in_err-put_step.ensures.lacks)
