use Rattle.std.specs.Prelude.{string_bytes}
use Rattle.lp_sig.proofs.Steps.{step_within}
use Rattle.std.proofs.Common.{map, subst, arith, ap, ◌∙◌, []}
use Rattle.lp_lemmas.proofs.Results.{passed_up}
use Rattle.lp_sig.specs.Loading.{IsLoadOrder}
use Rattle.lp_sig.specs.Walking.{IsFirstCircleFault}
use Rattle.lp_sig.specs.Refusals.{IsRefusal, seen_in, seen_before, constants_before}
use Rattle.lp_sig.specs.Constants.{AreConstants, HaveNumbers, HaveFirstTypes}
use Rattle.lp_sig.proofs.DeclaredConstants.{step_declares, all_constants}
use Rattle.lp_sig.specs.Rows.{fixity_row}
use Rattle.lp_sig.specs.Types.{AreAlike}
use Rattle.lp_sig.specs.Entries.{AreAbbreviations}
use Rattle.lp_sig.specs.Said.{numbered, kinds_among, declared_names, firsts, fixities_in}
use Rattle.lp_sig.specs.Knowing.{KnowsOperators}
use Rattle.lp_sig.proofs.Spoken.{steps_more, all_steps_said}
use Rattle.lp_sig.proofs.Seeing.{knows_nothing, step_seen, all_seen}
use Rattle.lp_sig.proofs.Blame.{circle, step_at_fault, taken_more, all_taken, free_steps}
use Rattle.lp_sig.proofs.texts.elaborate.Goals as goal

pub returns-in_err-check_circles-clause-refused : goal.returns-in_err-check_circles-clause-refused
returns-in_err-check_circles-clause-refused c =
    let e = c.in_err-check_circles.field-0.0 in
    let steps = c.in_ok-steps.steps.items in
    passed_up c.from_residual-in_err-check_circles.result e (IsRefusal c.args.names.now c.args.sources.now c.args.texts.now c.args.root) c.from_residual-in_err-check_circles.ensures.1
    (circle c.args.names.now c.args.sources.now c.args.texts.now c.args.root steps e (subst (λ w. IsLoadOrder w c.args.root steps) c.in_ok-ways.ensures c.in_ok-steps.ensures)
    (subst (λ w. IsFirstCircleFault w steps e) c.in_ok-ways.ensures (subst (λ s. IsFirstCircleFault (map (λ out. out.items) c.in_ok-ways.ways.ways.items) s e) c.as_slice.ensures.value c.in_err-check_circles.ensures.circle)))

pub loop-step-init : goal.loop-step-init
loop-step-init c = record {
  taken = λ j s l at. absurd (omega (arith, l));
  seen = knows_nothing c.new-making.result c.new-making.ensures.names c.new-making.ensures.uses c.new-making.ensures.bodies;
  constants = c.new-making.ensures.constants;
  typed = (c.new-making.ensures.typed, λ k d h. absurd (omega (arith, h)));
  operators = c.new-making.ensures.operators;
}

pub loop-step-preserved : goal.loop-step-preserved
loop-step-preserved c = record {
  taken = taken_more c.args.names.now c.args.sources.now c.args.texts.now c.deref-step-items.result.now c.loop-step.step-index _ c.loop-step-test.true c.loop-step.invariant.taken (c.in_ok-take.ensures.taken _ _ c.loop-step.invariant.seen c.loop-step.invariant.constants c.loop-step.invariant.typed);
  seen = step_seen c.args.names.now c.args.sources.now c.args.texts.now c.deref-step-items.result.now c.loop-step.step-index _ c.loop-step-test.true c.loop-step.making c.take.new.making c.loop-step.invariant.seen c.in_ok-take.ensures.seen;
  constants = (step_declares c.args.names.now c.args.sources.now c.args.texts.now c.deref-step-items.result.now c.loop-step.step-index _
      c.loop-step-test.true c.loop-step.making c.take.new.making c.loop-step.invariant.seen c.loop-step.invariant.constants
      c.loop-step.invariant.typed c.in_ok-take.ensures.constants).0;
  typed = (step_declares c.args.names.now c.args.sources.now c.args.texts.now c.deref-step-items.result.now c.loop-step.step-index _
      c.loop-step-test.true c.loop-step.making c.take.new.making c.loop-step.invariant.seen c.loop-step.invariant.constants
      c.loop-step.invariant.typed c.in_ok-take.ensures.constants).1;
  operators = subst (KnowsOperators c.take.new.making.operators) (steps_more fixities_in c.args.sources.now c.args.texts.now c.deref-step-items.result.now c.loop-step.step-index _ c.loop-step-test.true) (c.in_ok-take.ensures.operators _ c.loop-step.invariant.operators);
}

pub returns-in_err-take-clause-refused : goal.returns-in_err-take-clause-refused
returns-in_err-take-clause-refused c =
    let steps = c.in_ok-steps.steps.items in
    let e = c.in_err-take.field-0.0 in
    passed_up c.from_residual-in_err-take.result e (IsRefusal c.args.names.now c.args.sources.now c.args.texts.now c.args.root) c.from_residual-in_err-take.ensures.1
    (step_at_fault c.args.names.now c.args.sources.now c.args.texts.now c.args.root steps c.deref-step-items.result.now c.loop-step.step-index _ e c.deref-step-items.ensures.value
    (free_steps c.args.names.now c.args.sources.now c.args.texts.now c.args.root (map (λ out. out.items) c.in_ok-ways.ways.ways.items) steps c.as_slice.result.now c.in_ok-ways.ensures c.as_slice.ensures.value c.in_ok-steps.ensures c.in_ok-check_circles.ensures.none)
    c.loop-step-test.true c.loop-step.invariant.taken (c.in_err-take.ensures.refused
    (seen_before c.args.names.now c.args.sources.now c.args.texts.now c.deref-step-items.result.now c.loop-step.step-index)
    (constants_before c.args.names.now c.args.sources.now c.args.texts.now c.deref-step-items.result.now c.loop-step.step-index)
    c.loop-step.invariant.seen c.loop-step.invariant.constants c.loop-step.invariant.typed))

pub returns-clause-accepted : goal.returns-clause-accepted
returns-clause-accepted c = record {
  steps = c.in_ok-steps.steps.items;
  loaded = free_steps c.args.names.now c.args.sources.now c.args.texts.now c.args.root (map (λ out. out.items) c.in_ok-ways.ways.ways.items) c.in_ok-steps.steps.items c.as_slice.result.now c.in_ok-ways.ensures c.as_slice.ensures.value c.in_ok-steps.ensures c.in_ok-check_circles.ensures.none;
  taken = all_taken c.args.names.now c.args.sources.now c.args.texts.now c.in_ok-steps.steps.items c.deref-step-items.result.now c.loop-step.step-index c.deref-step-items.ensures.value c.loop-step-test.false c.loop-step.invariant.taken;
  kinds_are = c.in_ok-signature.ensures.kinds ∙ ap (numbered 8) (c.loop-step.invariant.seen.names.kinds ∙ ap
      (λ z. kinds_among (declared_names z.said)) (all_seen c.args.names.now c.args.sources.now c.args.texts.now c.deref-step-items.result.now
      c.loop-step.step-index c.in_ok-steps.steps.items c.deref-step-items.ensures.value c.loop-step-test.false));
  fixities_are = ap (λ v. map fixity_row v.items) c.in_ok-signature.ensures.fixities ∙ c.loop-step.invariant.operators.rows ∙ ap (firsts [])
      (all_steps_said fixities_in c.args.sources.now c.args.texts.now c.in_ok-steps.steps.items c.deref-step-items.result.now c.loop-step.step-index
      c.deref-step-items.ensures.value c.loop-step-test.false);
  abbreviations_are = subst (λ z. AreAbbreviations c.in_ok-signature.signature.bank z c.in_ok-signature.signature.abbreviations.items)
      (all_seen c.args.names.now c.args.sources.now c.args.texts.now c.deref-step-items.result.now c.loop-step.step-index c.in_ok-steps.steps.items
      c.deref-step-items.ensures.value c.loop-step-test.false) (c.in_ok-signature.ensures.abbreviations _ c.loop-step.invariant.seen);
  alike = subst (λ z. AreAlike z.said z.definitions z.definitions) (all_seen c.args.names.now c.args.sources.now c.args.texts.now c.deref-step-items.result.now c.loop-step.step-index c.in_ok-steps.steps.items c.deref-step-items.ensures.value c.loop-step-test.false) c.loop-step.invariant.seen.alike;
  constants_are = subst (λ rows. AreConstants c.in_ok-signature.signature.bank (seen_in c.args.names.now c.args.sources.now c.args.texts.now
      c.in_ok-steps.steps.items).said (seen_in c.args.names.now c.args.sources.now c.args.texts.now c.in_ok-steps.steps.items).definitions rows
      c.in_ok-signature.signature.constants.items) (all_constants c.args.names.now c.args.sources.now c.args.texts.now c.deref-step-items.result.now
      c.loop-step.step-index c.in_ok-steps.steps.items c.deref-step-items.ensures.value c.loop-step-test.false)
      (subst (λ z. AreConstants c.in_ok-signature.signature.bank z.said z.definitions
      (constants_before c.args.names.now c.args.sources.now c.args.texts.now c.deref-step-items.result.now c.loop-step.step-index)
      c.in_ok-signature.signature.constants.items) (all_seen c.args.names.now c.args.sources.now c.args.texts.now c.deref-step-items.result.now
      c.loop-step.step-index c.in_ok-steps.steps.items c.deref-step-items.ensures.value c.loop-step-test.false)
      (c.in_ok-signature.ensures.constants (seen_before c.args.names.now c.args.sources.now c.args.texts.now c.deref-step-items.result.now
      c.loop-step.step-index) (constants_before c.args.names.now c.args.sources.now c.args.texts.now c.deref-step-items.result.now
      c.loop-step.step-index) c.loop-step.invariant.constants).0);
  numbers = subst HaveNumbers (all_constants c.args.names.now c.args.sources.now c.args.texts.now c.deref-step-items.result.now c.loop-step.step-index
      c.in_ok-steps.steps.items c.deref-step-items.ensures.value c.loop-step-test.false)
      (c.in_ok-signature.ensures.constants (seen_before c.args.names.now c.args.sources.now c.args.texts.now c.deref-step-items.result.now
      c.loop-step.step-index) (constants_before c.args.names.now c.args.sources.now c.args.texts.now c.deref-step-items.result.now
      c.loop-step.step-index) c.loop-step.invariant.constants).1;
  typed = subst (λ r. HaveFirstTypes (seen_in c.args.names.now c.args.sources.now c.args.texts.now c.in_ok-steps.steps.items).said
      (seen_in c.args.names.now c.args.sources.now c.args.texts.now c.in_ok-steps.steps.items).definitions r r)
      (all_constants c.args.names.now c.args.sources.now c.args.texts.now c.deref-step-items.result.now c.loop-step.step-index
      c.in_ok-steps.steps.items c.deref-step-items.ensures.value c.loop-step-test.false)
      (subst (λ z. HaveFirstTypes z.said z.definitions (constants_before c.args.names.now c.args.sources.now c.args.texts.now
      c.deref-step-items.result.now c.loop-step.step-index) (constants_before c.args.names.now c.args.sources.now c.args.texts.now
      c.deref-step-items.result.now c.loop-step.step-index)) (all_seen c.args.names.now c.args.sources.now c.args.texts.now
      c.deref-step-items.result.now c.loop-step.step-index c.in_ok-steps.steps.items c.deref-step-items.ensures.value c.loop-step-test.false)
      c.loop-step.invariant.typed.1);
}

pub take-requires : goal.take-requires
take-requires c = step_within (map string_bytes c.args.names.now) c.args.sources.now c.args.texts.now c.args.root (map (λ out. out.items) c.in_ok-ways.ways.ways.items) c.in_ok-steps.steps.items c.deref-step-items.result.now c.loop-step.step-index _
    c.in_ok-ways.ensures c.in_ok-steps.ensures c.deref-step-items.ensures.value c.loop-step-test.true
