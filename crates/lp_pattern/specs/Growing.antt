-- Bindings that only grow, and pairs of terms of a bank.
use Rattle.std.specs.Prelude.{◌≡◌, ℕ, ◌<◌, List, ◌++◌}
use Rattle.lp_model.specs.declared.answer.Pair.{Pair}
use Rattle.lp_pattern.specs.declared.bindings.Bindings.{Bindings}
use Rattle.lp_pattern.specs.declared.rules.Verdict.{Verdict}

-- the second list is the first with more behind it
abbrev pub GoesOn : {A : Type 0} → List A → List A → Type 0
GoesOn old new = (more : List _) × (new ≡ old ++ more)

-- what was bound is bound still, in its place
pub record Grows (old new : Bindings) : Type 0 where
  pub terms : GoesOn old.terms.entries new.terms.entries
  pub types : GoesOn old.types.entries new.types.entries

-- both sides are among the first n terms
abbrev pub IsPairOf : ℕ → Pair → Type 0
IsPairOf n p = (p.left.0 < n) × (p.right.0 < n)

-- a pair that is delayed is such a pair
abbrev pub IsVerdictIn : ℕ → Verdict → Type 0
IsVerdictIn n Verdict.Gone = Unit {0}
IsVerdictIn n (Verdict.Delayed p) = IsPairOf n p
