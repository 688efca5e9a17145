use Rattle.std.proofs.Common.{◌≡◌, ℕ, List, map}
use Rattle.std.specs.Prelude.{Contains}
use Rattle.lp_term.specs.Nodes.{Extends}
use Rattle.lp_sig.specs.Rows.{Row}
use Rattle.lp_sig.specs.Said.{Said}
use Rattle.lp_sig.specs.Knowing.{Knows}
use Rattle.lp_sig.specs.Types.{Definition}
use Rattle.lp_sig.specs.Abbreviations.{Seen, all_uses}
use Rattle.lp_sig.specs.Standing.{BodyStands}
use Rattle.lp_sig.specs.Holding.{HoldsBodies, HoldsLines}
use Rattle.lp_sig.specs.Constants.{IsSettledIf}
use Rattle.lp_sig.specs.UseOrder.{UsesComeFirst}
use Rattle.lp_sig.specs.Announced.{CanBeSettled}
use Rattle.lp_sig.specs.declared.walk.Step.TheVariants.{Declare}
use Rattle.lp_sig.proofs.InTurn.{AreOnWay}
use Rattle.lp_sig.proofs.bodies.Bodies.settle_all.Given as goal

abbrev pub invariant-loop-step : goal.invariant-loop-step
invariant-loop-step g l = record {
  lines : map (λ b. b.line) l.self.bodies.items ≡ map (λ b. b.line) l.fn.self.bodies.items;
  kept : Extends l.fn.self.types.bank l.self.types.bank;
  bodies : (said : List (Row Said)) (defs : List (Row Definition)) → Knows l.names said → HoldsLines l.fn.self.bodies.items said defs l.source
      (g.T.Lines.declared l.text) → HoldsBodies l.fn.self.types.bank l.fn.self.bodies.items said defs → HoldsBodies l.self.types.bank
      l.self.bodies.items said defs;
  settled : (from : ℕ) (z : Seen) → Knows l.names z.said → ((place : ℕ) → Contains l.steps (Declare place) → BodyStands from z place → CanBeSettled l.fn.self.bodies.items z.said (all_uses z) l.source (g.T.Lines.declared l.text) place) →
      UsesComeFirst (all_uses z) (BodyStands from z) (IsSettledIf from z l.fn.self.bodies.items) l.steps → AreOnWay (all_uses z) (BodyStands from z) l.steps l.step-index (IsSettledIf from z l.fn.self.bodies.items) (IsSettledIf from z l.self.bodies.items);
}
