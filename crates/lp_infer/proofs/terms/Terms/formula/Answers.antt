use Rattle.std.proofs.Common.{◌≡◌, ◌∙◌, sym, ap, subst, map, take, drop, length, arith}
use Rattle.std.proofs.lemmas.List.{take_all, take_more}
use Rattle.lp_term.specs.Nodes.{type_tree}
use Rattle.lp_term.proofs.Trees.{extends_same}
use Rattle.lp_term.proofs.Within.{kept_then}
use Rattle.lp_infer.specs.Postfix.{mark}
use Rattle.lp_infer.specs.Filling.{Forms, form_all}
use Rattle.lp_infer.specs.inner.Parts.{HaveParts}
use Rattle.lp_infer.proofs.FillingSteps.{nothing_forms, step_forms, formula_told}
use Rattle.lp_infer.proofs.Parts.{next_parts, last_part}
use Rattle.lp_infer.proofs.Needs.{begins_formed, next_formed, arguments_left, arguments_here}
use Rattle.lp_infer.proofs.terms.Terms.formula.Goals as goal

pub loop-step-init : goal.loop-step-init
loop-step-init c = record {
  kept = extends_same c.args.bank.now;
  forms = λ b τ. nothing_forms c.args.bank.now c.args.types.now c.args.self.now;
  parts = subst (HaveParts c.args.steps.now) (sym (ap length c.requires.empty)) c.requires.parts;
  arguments = c.requires.arguments;
}

pub loop-step-preserved : goal.loop-step-preserved
loop-step-preserved c =
    let I = c.loop-step.invariant in
    let i = c.loop-step.step-index in
    let steps = c.args.steps.now in
    let b = c.args.bank.now in
    let S = (I.forms b (type_tree b)).sound (begins_formed b c.args.types.now c.args.self.now c.requires.empty c.requires.known) in
    record {
      kept = kept_then c.args.bank.now c.loop-step.bank c.step.new.bank I.kept c.in_ok-step.ensures.kept;
      forms = λ b τ.
          let m = mark c.args.source.now b c.args.count τ in
          subst (λ l. Forms c.args.bank.now c.step.new.bank c.args.types.now c.args.self.now c.step.new.self (form_all (map m l))) (sym (take_more steps i _ c.loop-step-test.true))
          (step_forms c.args.bank.now c.loop-step.bank c.step.new.bank c.args.types.now c.args.self.now c.loop-step.self c.step.new.self m (take i steps) _ (I.forms b τ) (c.in_ok-step.ensures.formed b τ));
      parts = next_formed c.args.source.now b c.args.count (type_tree b) steps i _ c.loop-step-test.true c.loop-step.bank c.step.new.bank c.args.types.now c.loop-step.self c.step.new.self I.parts S (c.in_ok-step.ensures.formed b (type_tree b));
      arguments = arguments_left steps i _ c.loop-step-test.true c.loop-step.self.used c.step.new.self.used (length c.args.types.now) c.in_ok-step.ensures.used I.arguments;
    }

pub step-requires-clause-shallow : goal.step-requires-clause-shallow
step-requires-clause-shallow c = c.requires.shallow c.loop-step.step-index _ c.loop-step-test.true

pub step-requires-clause-parts : goal.step-requires-clause-parts
step-requires-clause-parts c = (next_parts c.args.steps.now c.loop-step.step-index _ _ c.loop-step-test.true c.loop-step.invariant.parts).0

pub step-requires-clause-arguments : goal.step-requires-clause-arguments
step-requires-clause-arguments c = arguments_here c.args.steps.now c.loop-step.step-index _ c.loop-step-test.true c.loop-step.self.used (length c.args.types.now) c.loop-step.invariant.arguments

pub term-requires : goal.term-requires
term-requires c =
    let one = last_part c.args.steps.now c.loop-step.step-index (length c.loop-step.self.stack.items) c.loop-step-test.false c.loop-step.invariant.parts in
    omega (arith, one)

pub returns-clause-term : goal.returns-clause-term
returns-clause-term c = λ none known.
    let i = c.loop-step.step-index in
    let steps = c.args.steps.now in
    formula_told c.args.bank.now c.loop-step.bank c.term.new.bank c.args.types.now c.args.self.now c.loop-step.self c.term.new.self (λ b τ. mark c.args.source.now b c.args.count τ) (take i steps) steps (take_all i steps c.loop-step-test.false) none known c.loop-step.invariant.forms c.term.result c.term.ensures.term
