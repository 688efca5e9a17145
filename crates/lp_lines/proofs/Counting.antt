-- Counts of faults: one that did not rise stays, and one that stayed so far goes on from where it was.
use Rattle.std.proofs.Common.{◌≡◌, ℕ, ◌<◌, ◌≤◌, arith, inl, inr}
use Rattle.std.specs.Prelude.{◌⊎◌}
use Rattle.std.proofs.lemmas.Bool.{cases_lt}
use Rattle.lp_base.specs.Counts.{Counts}

pub same_count : (answered : Type 0) (old new : ℕ) → Counts answered old new → (answered → ⊥) → new ≡ old
same_count answered old new c never = go (cases_lt old new)
  where
    go : (old < new) ⊎ (new ≤ old) → new ≡ old
    go (inl l) = absurd (never (c.rises_only_then l))
    go (inr l) = let n = c.never_falls in omega arith
