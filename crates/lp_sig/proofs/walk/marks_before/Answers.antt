use Rattle.std.proofs.Common.{true, get_or, sym, ap, ◌∙◌, arith, true≢false}
use Rattle.lp_sig.proofs.Circles.{clear}
use Rattle.lp_sig.proofs.InTurn.{marked_more, clear_more}
use Rattle.lp_sig.proofs.walk.marks_before.Goals as goal

pub loop-place-init : goal.loop-place-init
loop-place-init c = record {
  within = omega arith;
  marked = λ k lt e. absurd (true≢false (sym e ∙ ap (λ m. get_or m k true) c.in_ok-marks.ensures ∙ clear c.args.count k lt));
  clear = λ k e. omega arith;
}

pub loop-place-preserved : goal.loop-place-preserved
loop-place-preserved c = record {
  within = omega (arith, c.loop-place-test.true);
  marked = marked_more c.loop-place.marks.items c.mark.new.marks.items c.loop-place.place c.mark.ensures.marked c.args.count c.loop-place.invariant.marked;
  clear = clear_more c.loop-place.marks.items c.mark.new.marks.items c.loop-place.place c.mark.ensures.marked c.loop-place.invariant.clear;
}

pub returns-clause-marked : goal.returns-clause-marked
returns-clause-marked c = λ k lt e. let l = c.loop-place.invariant.marked k lt e in omega (arith, l, c.loop-place.invariant.within)

pub returns-clause-clear : goal.returns-clause-clear
returns-clause-clear c = λ k e. let l = c.loop-place.invariant.clear k e in omega (arith, l, c.loop-place-test.false)
