use Rattle.std.proofs.Common.{◌≡◌, ℕ, ◌<◌, map, None}
use Rattle.lp_sig.specs.Holding.{line_at}
use Rattle.lp_sig.proofs.bodies.Bodies.leave.Given as goal

abbrev pub invariant-loop-place : goal.invariant-loop-place
invariant-loop-place l = record {
  types : l.self.types ≡ l.fn.self.types;
  bodies : map (λ b. b.body) l.self.bodies.items ≡ map (λ b. b.body) l.fn.self.bodies.items;
  lines : (i : ℕ) → i < l.place → line_at l.self.bodies.items i ≡ None;
}
