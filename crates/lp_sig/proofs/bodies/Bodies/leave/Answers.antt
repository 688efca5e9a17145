use Rattle.std.proofs.Common.{refl, ◌∙◌, arith}
use Rattle.lp_sig.proofs.Settling.{no_line_before, no_line_past}
use Rattle.lp_sig.proofs.bodies.Bodies.leave.Goals as goal

pub loop-place-init : goal.loop-place-init
loop-place-init c = record { types = refl; bodies = refl; lines = λ i h. absurd (omega (arith, h)) }

pub loop-place-preserved : goal.loop-place-preserved
loop-place-preserved c = record {
  types = c.leave_at.ensures.types ∙ c.loop-place.invariant.types;
  bodies = c.leave_at.ensures.bodies ∙ c.loop-place.invariant.bodies;
  lines = no_line_before c.loop-place.self.bodies.items c.leave_at.new.self.bodies.items c.loop-place.place c.leave_at.ensures.lines c.loop-place.invariant.lines;
}

pub returns-clause-lines : goal.returns-clause-lines
returns-clause-lines c = no_line_past c.args.self.now.bodies c.loop-place.self.bodies.items c.loop-place.place c.loop-place.invariant.bodies (omega (arith, c.loop-place-test.false, c.len-place-end.ensures, c.args.self.now.bodies.ok)) c.loop-place.invariant.lines
