use Rattle.std.proofs.Common.{◌≡◌, ℕ, Some}
use Rattle.std.specs.Prelude.{nat_eq}
use Rattle.indexmap.specs.IndexMap.{get}
use Rattle.lp_sig.specs.Refusals.{IsAt}
use Rattle.lp_build.proofs.signatures.places_of.Given as goal

abbrev pub invariant-loop-place : goal.invariant-loop-place
invariant-loop-place l = (number place : ℕ) → get nat_eq l.places number ≡ Some place → IsAt l.numbers.items place number
