-- Pairs of terms and of types at numbers of a bank, with the trees that others have in an earlier one.
use Rattle.std.specs.Prelude.{◌≡◌, ℕ, ◌<◌, length, List, All}
use Rattle.lp_calculus.specs.Types.{Ty}
use Rattle.lp_term.specs.Nodes.{Nodes}
use Rattle.lp_term.specs.declared.node.TypeId.{TypeId}
use Rattle.lp_model.specs.declared.answer.Pair.{Pair}
use Rattle.lp_pattern.specs.Growing.{IsPairOf}
use Rattle.lp_pattern.specs.Reading.{type_pairs_of}
use Rattle.lp_pattern.specs.Unifying.{pairs_at}

-- both types are among the first n
abbrev pub IsTypePairOf : ℕ → TypeId × TypeId → Type 0
IsTypePairOf n p = (p.0.0 < n) × (p.1.0 < n)

pub record ArePairsInPlaceOf (b d : Nodes) (old new : List Pair) : Type 0 where
  pub within : All (IsPairOf (length d.terms)) new
  pub trees : pairs_at d new ≡ pairs_at b old

pub record AreTypePairsInPlaceOf (b d : Nodes) (old new : List (TypeId × TypeId)) : Type 0 where
  pub within : All (IsTypePairOf (length d.types)) new
  pub trees : (θ : ℕ → Ty) → type_pairs_of d θ new ≡ type_pairs_of b θ old
