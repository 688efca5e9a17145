use Rattle.std.proofs.Common.{◌≡◌, ◌≤◌, length, None}
use Rattle.std.specs.Prelude.{◌^◌}
use Rattle.lp_build.specs.inner.Linked.{AreMade}
use Rattle.lp_build.specs.inner.Refusing.{AreLookedAt}
use Rattle.lp_build.proofs.signatures.elaborate_all.Given as goal

abbrev pub invariant-loop-root : goal.invariant-loop-root
invariant-loop-root l = (length l.group.texts.items ≤ 2 ^ 32 → l.refused ≡ None → AreMade l.group l.made.items l.root) × (length l.group.texts.items ≤ 2 ^ 32 → AreLookedAt l.group l.root l.refused)
