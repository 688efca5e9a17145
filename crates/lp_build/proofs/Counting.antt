-- Counts of the outside that did not rise go on from where they were.
use Rattle.std.proofs.Common.{◌≡◌, ℕ, ◌<◌, ◌≤◌, arith, subst, inl, inr, ◌∙◌}
use Rattle.std.specs.Prelude.{◌⊎◌, Option, None, Some}
use Rattle.std.proofs.lemmas.Bool.{cases_lt}
use Rattle.lp_base.specs.Counts.{Counts}
use Rattle.lp_base.specs.Held.{Held}
use Rattle.lp_build.specs.declared.fault.BuildFault.{BuildFault}
use Rattle.lp_build.specs.declared.fault.BuildFault.TheVariants as fault
use Rattle.lp_build.specs.Loads.{Outside}

same_count : (old new : ℕ) → Counts ⊥ old new → new ≡ old
same_count old new c = go (cases_lt old new)
  where
    go : (old < new) ⊎ (new ≤ old) → new ≡ old
    go (inl l) = absurd (c.rises_only_then l)
    go (inr l) = let n = c.never_falls in omega arith

counts_then : (answered : Type 0) (x y z : ℕ) → Counts ⊥ x y → Counts answered y z → Counts answered x z
counts_then answered x y z c d = subst (λ n. Counts answered n z) (same_count x y c) d

pub outside_then : {F : Type 0} (r m o w : F → ℕ) (h : F → Option Held) (x y z : F) (e : Option BuildFault) → Outside r m o w h x y None → Outside r m o w h y z e → Outside r m o w h x z e
outside_then r m o w h x y z e c d = record {
  read = counts_then _ (r x) (r y) (r z) c.read d.read;
  missing = counts_then _ (m x) (m y) (m z) c.missing d.missing;
  long = counts_then _ (o x) (o y) (o z) c.long d.long;
  unwritten = d.unwritten ∙ c.unwritten;
  same = d.same ∙ c.same;
}

pub outside_memory : {F : Type 0} (r m o w : F → ℕ) (h : F → Option Held) (x y : F) → Outside r m o w h x y None → Outside r m o w h x y (Some fault.Memory)
outside_memory r m o w h x y c = record { read = c.read; missing = c.missing; long = c.long; unwritten = c.unwritten; same = c.same }
