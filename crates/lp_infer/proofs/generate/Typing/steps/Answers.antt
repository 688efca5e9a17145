use Rattle.std.proofs.Common.{subst, map, take, length, []}
use Rattle.std.proofs.lemmas.List.{take_all, map_more}
use Rattle.lp_term.specs.Nodes.{type_tree}
use Rattle.lp_infer.specs.Postfix.{mark}
use Rattle.lp_infer.specs.Running.{run}
use Rattle.lp_infer.specs.Making.{Acts}
use Rattle.lp_infer.proofs.Visiting.{step_more}
use Rattle.lp_infer.proofs.Acting.{nothing_acts, step_acts}
use Rattle.lp_infer.proofs.Parts.{next_parts, next_open, last_part}
use Rattle.lp_infer.proofs.Needs.{is_next}
use Rattle.lp_infer.proofs.generate.Typing.steps.Goals as goal

pub loop-step-init : goal.loop-step-init
loop-step-init c = record { acts = λ all text. nothing_acts c.args.self.now; parts = c.requires.parts; opened = c.requires.opened }

pub loop-step-preserved : goal.loop-step-preserved
loop-step-preserved c =
    let I = c.loop-step.invariant in
    let i = c.loop-step.step-index in
    let steps = c.args.steps.now in
    let A = I.acts c.requires.known [] in
    let N = is_next c.args.signature.now [] c.args.count steps i _ c.loop-step-test.true c.loop-step.self c.step.new.self I.parts I.opened (A.sound c.requires.sound)
    (c.in_ok-step.ensures (step_more (length c.args.self.now.types.types) (length c.loop-step.self.types.types) A.kept.more_types _ (c.requires.known i _ c.loop-step-test.true)) []) in
    record {
      acts = λ all text.
          let m = mark text c.args.signature.now.bank c.args.count (type_tree c.args.self.now.types) in
          step_acts c.args.signature.now text c.args.count c.args.self.now c.loop-step.self c.step.new.self (map m (take i steps)) _ _ (I.acts all text) (all i _ c.loop-step-test.true) (map_more m steps i _ c.loop-step-test.true) (λ k. c.in_ok-step.ensures k text);
      parts = N.parts;
      opened = N.opened;
    }

pub step-requires-clause-known : goal.step-requires-clause-known
step-requires-clause-known c =
    let A = c.loop-step.invariant.acts c.requires.known [] in
    step_more (length c.args.self.now.types.types) (length c.loop-step.self.types.types) A.kept.more_types _ (c.requires.known c.loop-step.step-index _ c.loop-step-test.true)

pub step-requires-clause-parts : goal.step-requires-clause-parts
step-requires-clause-parts c = (next_parts c.args.steps.now c.loop-step.step-index _ _ c.loop-step-test.true c.loop-step.invariant.parts).0

pub step-requires-clause-opened : goal.step-requires-clause-opened
step-requires-clause-opened c = (next_open c.args.steps.now c.loop-step.step-index _ _ c.loop-step-test.true c.loop-step.invariant.opened).0

pub returns-clause-acts : goal.returns-clause-acts
returns-clause-acts c = λ all text.
    let m = mark text c.args.signature.now.bank c.args.count (type_tree c.args.self.now.types) in
    subst (λ l. Acts c.args.self.now c.loop-step.self (run (map m l))) (take_all c.loop-step.step-index c.args.steps.now c.loop-step-test.false) (c.loop-step.invariant.acts all text)

pub returns-clause-parts : goal.returns-clause-parts
returns-clause-parts c = last_part c.args.steps.now c.loop-step.step-index (length c.loop-step.self.stack.items) c.loop-step-test.false c.loop-step.invariant.parts
