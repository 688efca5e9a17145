use Rattle.std.proofs.Common.{◌≡◌, ◌<◌, ℕ, [], length, None}
use Rattle.std.specs.Prelude.{◌^◌}
use Rattle.lp_verify.specs.Held.{was_set, value_in}
use Rattle.lp_verify.specs.inner.Stack.{IsFilledSoFar}
use Rattle.lp_verify.proofs.registers.Registers.start_with.Given as goal

abbrev pub invariant-loop-value : goal.invariant-loop-value
invariant-loop-value g l =
    ((r : ℕ) → was_set l.self r ≡ was_set l.fn.self r)
    × (length l.fn.values < 2 ^ 16 → l.fn.self.trail.items ≡ [] → ((r : ℕ) → value_in l.fn.self r ≡ None) → (l.register ≡ l.value-index) × IsFilledSoFar l.value-index l.fn.values l.self)
