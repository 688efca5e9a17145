use Rattle.std.proofs.Common.{◌<◌, length, refl, sym, subst, ◌∙◌, arith}
use Rattle.lp_sig.specs.Abbreviations.{all_uses}
use Rattle.lp_sig.specs.Standing.{BodyStands}
use Rattle.lp_sig.specs.Loading.{Loads}
use Rattle.lp_sig.specs.Constants.{IsSettledIf}
use Rattle.lp_sig.specs.UseOrder.{Behind, UsesComeFirst}
use Rattle.lp_sig.specs.declared.walk.Step.TheVariants.{Declare}
use Rattle.std.specs.Prelude.{Contains}
use Rattle.lp_term.proofs.Within.{kept_then}
use Rattle.lp_term.proofs.Trees.{extends_same}
use Rattle.lp_sig.proofs.Settling.{lines_stay}
use Rattle.lp_sig.proofs.OpenBodies.{can_stay}
use Rattle.lp_sig.proofs.InTurn.{are_good, starts, place_order, place_new, place_settled}
use Rattle.lp_sig.proofs.bodies.Bodies.settle.Goals as goal

pub loop-place-init : goal.loop-place-init
loop-place-init g c = record {
  lines = refl;
  kept = extends_same c.args.self.now.types.bank;
  bodies = λ said defs k l h. h;
  settled = λ z k same count old can.
      let from = c.args.from in
      let first = c.args.self.now.bodies.items in
      starts (length first) from (BodyStands from z) (IsSettledIf from z first) c.in_ok-marks.marks.items (λ j l e. c.in_ok-marks.ensures.marked j (omega (arith, l, c.len.ensures, c.args.self.now.bodies.ok)) e) c.in_ok-marks.ensures.clear (λ j l good stands. old j l);
}

pub loop-place-preserved : goal.loop-place-preserved
loop-place-preserved g c = record {
  lines = c.settle_all.ensures.lines ∙ c.loop-place.invariant.lines;
  kept = kept_then c.args.self.now.types.bank c.loop-place.self.types.bank c.settle_all.new.self.types.bank c.loop-place.invariant.kept c.settle_all.ensures.kept;
  bodies = λ said defs k l h.
      c.settle_all.ensures.bodies said defs k (lines_stay c.args.self.now.bodies.items c.loop-place.self.bodies.items said defs c.args.source.now (g.T.Lines.declared c.args.text.now) c.loop-place.invariant.lines l) (c.loop-place.invariant.bodies said defs k l h);
  settled = λ z k same count old can.
      let uses = all_uses z in
      let first = c.args.self.now.bodies.items in
      let n = length first in
      let from = c.args.from in
      let place = c.loop-place.place in
      let stands = BodyStands from z in
      let now = IsSettledIf from z c.loop-place.self.bodies.items in
      let marks = c.loop-place.marks.items in
      let after = c.steps_from.new.marks.items in
      let steps = c.in_ok-steps.steps.items in
      let slice = c.as_slice.ensures.value in
      let below : place < n = omega (arith, c.loop-place-test.true, c.len-place-end.ensures, c.args.self.now.bodies.ok) in
      let good = are_good from z n count (λ j a b. let h = can j a b in (h.0, λ x. (h.1 x).1)) in
      let loads = subst (λ ways. Loads ways marks place steps after) same c.in_ok-steps.ensures in
      let under = c.loop-place.invariant.settled z k same count old can in
      place_settled uses n from place stands now marks after steps good loads below under (IsSettledIf from z c.settle_all.new.self.bodies.items)
      (λ j b. c.in_ok-settle_all.ensures.settled from z k
      (λ p d x. let at = place_new uses n from place stands now marks after steps good loads below under p (subst (λ s. Contains s (Declare p)) slice d) in
      can_stay first c.loop-place.self.bodies.items z.said uses c.args.source.now (g.T.Lines.declared c.args.text.now) p c.loop-place.invariant.lines ((can p at.0 at.1).1 x).0)
      (subst (UsesComeFirst uses stands now) (sym slice) (place_order uses n from place stands now marks after steps good loads below under)) j (subst (λ s. Behind now s j) (sym slice) b));
}

pub returns-clause-settled : goal.returns-clause-settled
returns-clause-settled g c = λ z k same count old can j h stands.
    let l : j < length c.args.self.now.bodies.items = omega (arith, h, count) in
    (c.loop-place.invariant.settled z k same count old can).done j l (omega (arith, l, c.loop-place-test.false, c.len-place-end.ensures, c.args.self.now.bodies.ok)) stands stands

pub returns-in_err-steps-clause-lines : goal.returns-in_err-steps-clause-lines
returns-in_err-steps-clause-lines g c = c.loop-place.invariant.lines

pub returns-in_err-steps-clause-bodies : goal.returns-in_err-steps-clause-bodies
returns-in_err-steps-clause-bodies g c = c.loop-place.invariant.bodies

pub returns-in_err-steps-clause-kept : goal.returns-in_err-steps-clause-kept
returns-in_err-steps-clause-kept g c = c.loop-place.invariant.kept

pub returns-in_err-settle_all-clause-bodies : goal.returns-in_err-settle_all-clause-bodies
returns-in_err-settle_all-clause-bodies g c = λ said defs k l h.
    c.settle_all.ensures.bodies said defs k (lines_stay c.args.self.now.bodies.items c.loop-place.self.bodies.items said defs c.args.source.now (g.T.Lines.declared c.args.text.now) c.loop-place.invariant.lines l) (c.loop-place.invariant.bodies said defs k l h)

pub returns-in_err-settle_all-clause-kept : goal.returns-in_err-settle_all-clause-kept
returns-in_err-settle_all-clause-kept g c = kept_then c.args.self.now.types.bank c.loop-place.self.types.bank c.settle_all.new.self.types.bank c.loop-place.invariant.kept c.settle_all.ensures.kept
