use Rattle.lp_base.specs.declared.limits.TheConstants.{MAX_CLAUSES}
use Rattle.std.proofs.Common.{◌<◌, ◌⊎◌, ap, arith, subst, sym, [], refl, reverse}
use Rattle.lp_lemmas.proofs.Results.{passed_up}
use Rattle.lp_term.proofs.Trees.{extends_same, extends-trans}
use Rattle.lp_normal.specs.Within.{IsFrameIn}
use Rattle.lp_normal.specs.Making.{InnerComesTo}
use Rattle.lp_normal.specs.Counted.{IsOver}
use Rattle.lp_normal.specs.inner.Met.{IsMade, frames_met, move_met, Passes}
use Rattle.lp_normal.proofs.Bounds.{All-empty}
use Rattle.lp_normal.proofs.Counts.{over_then, count_falls}
use Rattle.lp_normal.specs.inner.Kinds.{is_in_goals, IsNested}
use Rattle.lp_normal.proofs.flattening.run.Goals as goal

pub clauses-init : goal.clauses-init
clauses-init c =
    let b = c.args.bank.now in
    record {
      kept = extends_same b;
      frames = All-empty (IsFrameIn b) c.new-frames.result.items c.new-frames.ensures.items;
      inner = c.requires.inner;
      comes = λ whole h. subst (λ z. InnerComesTo b c.args.first z whole) (sym c.new-frames.ensures.items) h;
      kind = subst (λ z. IsNested (is_in_goals c.args.first) (is_in_goals c.args.first) (reverse z)) (sym c.new-frames.ensures.items) refl;
      met = λ k. omega (arith, c.requires.empty k, ap (frames_met k) c.new-frames.ensures.items);
      few = omega arith;
    }

pub clauses-preserved : goal.clauses-preserved
clauses-preserved c =
    let e = c.in_ok-next.ensures in
    record {
      kept = extends-trans c.args.bank.now c.clauses.bank c.until_clause.new.bank c.clauses.invariant.kept e.kept;
      frames = e.frames;
      inner = rw c.in-On.is at e.within;
      comes = λ whole h. rw c.in-On.is at (e.comes whole (c.clauses.invariant.comes whole h));
      kind = rw c.in-On.is at (e.kind (is_in_goals c.args.first) c.clauses.invariant.kind);
      met = λ b. rw c.in-On.is at (e.met c.clauses.invariant.met b);
      few = e.few c.clauses.invariant.few;
    }

pub returns-in-Done-clause-kept : goal.returns-in-Done-clause-kept
returns-in-Done-clause-kept c = extends-trans c.args.bank.now c.clauses.bank c.until_clause.new.bank c.clauses.invariant.kept c.in_ok-next.ensures.kept

pub returns-in-Done-clause-within : goal.returns-in-Done-clause-within
returns-in-Done-clause-within c = rw c.in-Done.is at c.in_ok-next.ensures.within

pub returns-in-Done-clause-made : goal.returns-in-Done-clause-made
returns-in-Done-clause-made c = λ whole h. rw c.in-Done.is at (c.in_ok-next.ensures.comes whole (c.clauses.invariant.comes whole h))

pub returns-in-Done-clause-few : goal.returns-in-Done-clause-few
returns-in-Done-clause-few c = λ b.
    let e = c.in_ok-next.ensures in
    omega (arith, e.met c.clauses.invariant.met b, e.few c.clauses.invariant.few, ap (move_met b) c.in-Done.is)

pub returns-in_err-next-clause-over : goal.returns-in_err-next-clause-over
returns-in_err-next-clause-over c =
    passed_up c.from_residual.result c.in_err-next.field-0.0 (IsOver (Passes c.args.bank.now c.args.first [] 0)) c.from_residual.ensures.1
    (over_then c.in_err-next.field-0.0 (λ p whole m h. p c.clauses.invariant.met whole (c.clauses.invariant.met c.clauses.bank) (c.clauses.invariant.comes whole h)) c.in_err-next.ensures.over)

pub clauses-smaller : goal.clauses-smaller
clauses-smaller c =
    let e = c.in_ok-next.ensures in
    let l = subst (λ m. IsMade m ⊎ (c.clauses.count < c.until_clause.new.count)) c.in-On.is e.later in
    count_falls MAX_CLAUSES c.clauses.count c.until_clause.new.count (e.few c.clauses.invariant.few) l

pub returns-in-Done-clause-kind : goal.returns-in-Done-clause-kind
returns-in-Done-clause-kind c = rw c.in-Done.is at (c.in_ok-next.ensures.kind (is_in_goals c.args.first) c.clauses.invariant.kind)
