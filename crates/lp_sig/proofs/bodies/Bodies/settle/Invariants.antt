use Rattle.std.proofs.Common.{◌≡◌, ℕ, ◌<◌, ◌≤◌, List, map, length}
use Rattle.lp_term.specs.Nodes.{Extends}
use Rattle.lp_sig.specs.Rows.{Row}
use Rattle.lp_sig.specs.Said.{Said}
use Rattle.lp_sig.specs.Knowing.{Knows}
use Rattle.lp_sig.specs.Types.{Definition}
use Rattle.lp_sig.specs.Abbreviations.{Seen, abbreviation_names, all_uses}
use Rattle.lp_sig.specs.Standing.{BodyStands}
use Rattle.lp_sig.specs.Loading.{HasNoCircle}
use Rattle.lp_sig.specs.Holding.{HoldsBodies, HoldsLines}
use Rattle.lp_sig.specs.Constants.{IsSettledAt, IsSettledIf}
use Rattle.lp_sig.specs.Announced.{CanBeSettled, HasUsesInside}
use Rattle.lp_sig.proofs.InTurn.{IsUnderWay}
use Rattle.lp_sig.proofs.bodies.Bodies.settle.Given as goal

abbrev pub invariant-loop-place : goal.invariant-loop-place
invariant-loop-place g l = record {
  lines : map (λ b. b.line) l.self.bodies.items ≡ map (λ b. b.line) l.fn.self.bodies.items;
  kept : Extends l.fn.self.types.bank l.self.types.bank;
  bodies : (said : List (Row Said)) (defs : List (Row Definition)) → Knows l.names said → HoldsLines l.fn.self.bodies.items said defs l.source
      (g.T.Lines.declared l.text) → HoldsBodies l.fn.self.types.bank l.fn.self.bodies.items said defs → HoldsBodies l.self.types.bank
      l.self.bodies.items said defs;
  settled : (z : Seen) → Knows l.names z.said → map (λ out. out.items) l.uses.ways.items ≡ all_uses z → length l.fn.self.bodies.items ≡ length (abbreviation_names z.said) → ((k : ℕ) → k < l.from → IsSettledAt l.fn.self.bodies.items k) →
      ((k : ℕ) → l.from ≤ k → k < length l.fn.self.bodies.items → HasUsesInside z k × (BodyStands l.from z k → CanBeSettled l.fn.self.bodies.items z.said (all_uses z) l.source (g.T.Lines.declared l.text) k × HasNoCircle (all_uses z) k)) →
      IsUnderWay (length l.fn.self.bodies.items) l.from l.place (BodyStands l.from z) (IsSettledIf l.from z l.self.bodies.items) l.marks.items;
}
