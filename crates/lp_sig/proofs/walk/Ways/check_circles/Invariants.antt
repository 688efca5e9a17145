use Rattle.std.proofs.Common.{ℕ, map, take}
use Rattle.std.specs.Prelude.{Contains}
use Rattle.lp_sig.specs.Loading.{HasNoCircle}
use Rattle.lp_sig.specs.declared.walk.Step.TheVariants.{Enter}
use Rattle.lp_sig.proofs.walk.Ways.check_circles.Given as goal

abbrev pub invariant-loop-step : goal.invariant-loop-step
invariant-loop-step l = (j : ℕ) → Contains (take l.step-index l.steps) (Enter j) → HasNoCircle (map (λ out. out.items) l.self.ways.items) j
