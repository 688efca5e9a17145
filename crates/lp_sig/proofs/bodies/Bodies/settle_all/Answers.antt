use Rattle.std.proofs.Common.{refl, subst, ◌∙◌}
use Rattle.std.specs.Prelude.{Contains}
use Rattle.std.proofs.lemmas.List.Elements.{Contains-get_or}
use Rattle.lp_term.proofs.Within.{kept_then}
use Rattle.lp_term.proofs.Trees.{extends_same}
use Rattle.lp_sig.specs.Abbreviations.{all_uses}
use Rattle.lp_sig.specs.Standing.{BodyStands}
use Rattle.lp_sig.specs.Constants.{IsSettledIf}
use Rattle.lp_sig.proofs.Settling.{lines_stay}
use Rattle.lp_sig.proofs.OpenBodies.{can_stay}
use Rattle.lp_sig.proofs.InTurn.{next_first, step_settled, steps_settled}
use Rattle.lp_sig.proofs.bodies.Bodies.settle_all.Goals as goal

pub loop-step-init : goal.loop-step-init
loop-step-init g c = record { lines = refl; kept = extends_same c.args.self.now.types.bank; bodies = λ said defs k l h. h; settled = λ from z k can first. (first, λ k b. b) }

pub loop-step-preserved : goal.loop-step-preserved
loop-step-preserved g c = record {
  lines = c.settle_at.ensures.lines ∙ c.loop-step.invariant.lines;
  kept = kept_then c.args.self.now.types.bank c.loop-step.self.types.bank c.settle_at.new.self.types.bank c.loop-step.invariant.kept c.settle_at.ensures.kept;
  bodies = λ said defs k l h.
      c.settle_at.ensures.bodies said defs k (lines_stay c.args.self.now.bodies.items c.loop-step.self.bodies.items said defs c.args.source.now (g.T.Lines.declared c.args.text.now) c.loop-step.invariant.lines l) (c.loop-step.invariant.bodies said defs k l h);
  settled = λ from z k can first.
      let steps = c.args.steps.now in
      let i = c.loop-step.step-index in
      let old = c.args.self.now.bodies.items in
      let now = c.loop-step.self.bodies.items in
      let uses = all_uses z in
      let stands = BodyStands from z in
      let before = IsSettledIf from z old in
      let here = IsSettledIf from z now in
      let way = c.loop-step.invariant.settled from z k can first in
      step_settled uses stands steps i before here _ (IsSettledIf from z c.settle_at.new.self.bodies.items) c.loop-step-test.true way
      (c.in_ok-settle_at.ensures.settled from z k
      (λ place e good. can_stay old now z.said uses c.args.source.now (g.T.Lines.declared c.args.text.now) place c.loop-step.invariant.lines (can place (subst (Contains steps) e (Contains-get_or steps i _ c.loop-step-test.true)) good))
      (next_first uses stands steps i before here _ c.loop-step-test.true way));
}

pub returns-clause-settled : goal.returns-clause-settled
returns-clause-settled g c = λ from z k can first.
    steps_settled (all_uses z) (BodyStands from z) c.args.steps.now c.loop-step.step-index (IsSettledIf from z c.args.self.now.bodies.items) (IsSettledIf from z c.loop-step.self.bodies.items) c.loop-step-test.false (c.loop-step.invariant.settled from z k can first)

pub returns-in_err-settle_at-clause-bodies : goal.returns-in_err-settle_at-clause-bodies
returns-in_err-settle_at-clause-bodies g c = λ said defs k l h.
    c.settle_at.ensures.bodies said defs k (lines_stay c.args.self.now.bodies.items c.loop-step.self.bodies.items said defs c.args.source.now (g.T.Lines.declared c.args.text.now) c.loop-step.invariant.lines l) (c.loop-step.invariant.bodies said defs k l h)

pub returns-in_err-settle_at-clause-kept : goal.returns-in_err-settle_at-clause-kept
returns-in_err-settle_at-clause-kept g c = kept_then c.args.self.now.types.bank c.loop-step.self.types.bank c.settle_at.new.self.types.bank c.loop-step.invariant.kept c.settle_at.ensures.kept
