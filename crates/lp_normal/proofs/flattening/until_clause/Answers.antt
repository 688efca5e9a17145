use Rattle.std.proofs.Common.{arith, refl, sym, inl, inr, ◌≡◌, ◌+◌, ◌∙◌}
use Rattle.lp_lemmas.proofs.Results.{passed_up}
use Rattle.lp_term.specs.Nodes.{Nodes}
use Rattle.lp_term.proofs.Trees.{extends_same, extends-trans}
use Rattle.lp_normal.specs.Counted.{IsOver}
use Rattle.lp_normal.specs.inner.Met.{inner_met, frames_met, Passes}
use Rattle.lp_normal.proofs.Counts.{over_then}
use Rattle.lp_normal.proofs.Works.{works_less}
use Rattle.lp_normal.proofs.flattening.until_clause.Goals as goal

pub moves-init : goal.moves-init
moves-init c = record {
  kept = extends_same c.args.bank.now;
  frames = c.requires.frames;
  inner = c.requires.inner;
  comes = λ whole h. h;
  kind = λ k h. h;
  met = λ m. m;
  count = refl;
  before = refl;
}

pub moves-preserved : goal.moves-preserved
moves-preserved c =
    let e = c.in_ok-next.ensures in
    record {
      kept = extends-trans c.args.bank.now c.moves.bank c.step.new.bank c.moves.invariant.kept e.kept;
      frames = e.frames;
      inner = rw c.in-On.is at e.within;
      comes = λ whole h. rw c.in-On.is at (e.comes whole (c.moves.invariant.comes whole h));
      kind = λ k h. rw c.in-On.is at (e.kind k (c.moves.invariant.kind k h));
      met = λ m b. rw c.in-On.is at (e.met b (c.moves.invariant.met m b));
      count = c.if-count-before.false ∙ c.moves.invariant.before;
      before = c.moves.invariant.before;
    }

pub moves-smaller : goal.moves-smaller
moves-smaller c =
    let e = c.in_ok-next.ensures in
    let i = c.moves.invariant in
    works_less c.moves.bank c.step.new.bank e.kept c.moves.inner c.in-On.next c.moves.frames.items c.step.new.frames.items c.moves.count c.step.new.count i.inner i.frames
    (c.if-count-before.false ∙ i.before ∙ sym i.count) (rw c.in-On.is at e.less)

pub returns-in_err-next-clause-over : goal.returns-in_err-next-clause-over
returns-in_err-next-clause-over c =
    passed_up c.from_residual.result c.in_err-next.field-0.0
    (IsOver (((b : Nodes) → inner_met b c.args.first + frames_met b c.args.frames.now.items ≡ c.args.count.now) → Passes c.args.bank.now c.args.first c.args.frames.now.items c.args.count.now))
    c.from_residual.ensures.1
    (over_then c.in_err-next.field-0.0 (λ p m whole n h. p whole (c.moves.invariant.met m c.moves.bank) (c.moves.invariant.comes whole h)) c.in_err-next.ensures.over)

pub returns-then-count-before-clause-kept : goal.returns-then-count-before-clause-kept
returns-then-count-before-clause-kept c = extends-trans c.args.bank.now c.moves.bank c.step.new.bank c.moves.invariant.kept c.in_ok-next.ensures.kept

pub returns-then-count-before-clause-frames : goal.returns-then-count-before-clause-frames
returns-then-count-before-clause-frames c = c.in_ok-next.ensures.frames

pub returns-then-count-before-clause-within : goal.returns-then-count-before-clause-within
returns-then-count-before-clause-within c = rw c.in-On.is at c.in_ok-next.ensures.within

pub returns-then-count-before-clause-comes : goal.returns-then-count-before-clause-comes
returns-then-count-before-clause-comes c = λ whole h. rw c.in-On.is at (c.in_ok-next.ensures.comes whole (c.moves.invariant.comes whole h))

pub returns-then-count-before-clause-met : goal.returns-then-count-before-clause-met
returns-then-count-before-clause-met c = λ m b. rw c.in-On.is at (c.in_ok-next.ensures.met b (c.moves.invariant.met m b))

pub returns-then-count-before-clause-few : goal.returns-then-count-before-clause-few
returns-then-count-before-clause-few c = λ h. c.in_ok-next.ensures.few (omega (arith, h, c.moves.invariant.count))

pub returns-then-count-before-clause-later : goal.returns-then-count-before-clause-later
returns-then-count-before-clause-later c = inr (omega (arith, c.if-count-before.true, c.in_ok-next.ensures.more, c.moves.invariant.count, c.moves.invariant.before))

pub returns-in-Done-clause-kept : goal.returns-in-Done-clause-kept
returns-in-Done-clause-kept c = extends-trans c.args.bank.now c.moves.bank c.step.new.bank c.moves.invariant.kept c.in_ok-next.ensures.kept

pub returns-in-Done-clause-frames : goal.returns-in-Done-clause-frames
returns-in-Done-clause-frames c = c.in_ok-next.ensures.frames

pub returns-in-Done-clause-within : goal.returns-in-Done-clause-within
returns-in-Done-clause-within c = rw c.in-Done.is at c.in_ok-next.ensures.within

pub returns-in-Done-clause-comes : goal.returns-in-Done-clause-comes
returns-in-Done-clause-comes c = λ whole h. rw c.in-Done.is at (c.in_ok-next.ensures.comes whole (c.moves.invariant.comes whole h))

pub returns-in-Done-clause-met : goal.returns-in-Done-clause-met
returns-in-Done-clause-met c = λ m b. rw c.in-Done.is at (c.in_ok-next.ensures.met b (c.moves.invariant.met m b))

pub returns-in-Done-clause-few : goal.returns-in-Done-clause-few
returns-in-Done-clause-few c = λ h. c.in_ok-next.ensures.few (omega (arith, h, c.moves.invariant.count))

pub returns-in-Done-clause-later : goal.returns-in-Done-clause-later
returns-in-Done-clause-later c = inl tt

pub returns-then-count-before-clause-kind : goal.returns-then-count-before-clause-kind
returns-then-count-before-clause-kind c = λ k h. rw c.in-On.is at (c.in_ok-next.ensures.kind k (c.moves.invariant.kind k h))

pub returns-in-Done-clause-kind : goal.returns-in-Done-clause-kind
returns-in-Done-clause-kind c = λ k h. rw c.in-Done.is at (c.in_ok-next.ensures.kind k (c.moves.invariant.kind k h))
