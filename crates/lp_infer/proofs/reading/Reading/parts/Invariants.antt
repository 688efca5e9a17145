use Rattle.std.proofs.Common.{ℕ, map, take}
use Rattle.lp_calculus.specs.Types.{Ty}
use Rattle.lp_term.specs.Nodes.{Nodes}
use Rattle.lp_infer.specs.ReadingOff.{IsReadMemo, AreRead}
use Rattle.lp_infer.proofs.reading.Reading.parts.Given as goal

abbrev pub invariant-loop-id : goal.invariant-loop-id
invariant-loop-id l = (A : ℕ → Ty) → (b : Nodes) → IsReadMemo A b l.self → AreRead b l.self.numbers.keys (map A (map (λ t. t.0) (take l.id-index l.ids))) l.parts.items
