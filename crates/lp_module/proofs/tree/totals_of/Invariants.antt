use Rattle.std.proofs.Common.{◌≡◌, ℕ, length, take, drop, get_or, []}
use Rattle.std.specs.Prelude.{Contains}
use Rattle.lp_copies.specs.Trees.{lists_in}
use Rattle.lp_module.specs.inner.Assembling.{in_all, AreTotals, AreBehind, own_kinds, own_constants}
use Rattle.lp_module.proofs.tree.totals_of.Given as goal

abbrev pub invariant-loop-at : goal.invariant-loop-at
invariant-loop-at l =
    (length l.totals.items ≡ length l.modules) × AreBehind (lists_in l.uses.items) (take l.at l.order.items) (drop l.at l.order.items) ×
    ((k : ℕ) → Contains (take l.at l.order.items) k → (u : ℕ) → Contains (get_or (lists_in l.uses.items) k []) u → Contains (take l.at l.order.items) u) ×
    AreTotals (lists_in l.uses.items) (own_kinds l.modules) (in_all (λ h. h.kinds) l.totals.items) (take l.at l.order.items) ×
    AreTotals (lists_in l.uses.items) (own_constants l.modules) (in_all (λ h. h.constants) l.totals.items) (take l.at l.order.items)
