-- Terms that are filled in, and copied into another bank, one after the other.
use Rattle.std.specs.Prelude.{◌≡◌, ℕ, ◌≤◌, List, All, map, length, take}
use Rattle.lp_term.specs.Memo.{AreMade}
use Rattle.lp_term.specs.Nodes.{Nodes, Extends, tree}
use Rattle.lp_term.specs.Same.{same_map}
use Rattle.lp_term.specs.Within.{AreTermsOf}
use Rattle.lp_term.specs.declared.changed.Changed.{Changed}
use Rattle.lp_term.specs.declared.node.TermId.{TermId}
use Rattle.lp_model.specs.Pair.{Closing, Pair, closed}
use Rattle.lp_model.specs.Readings.{pair_of}
use Rattle.lp_model.specs.declared.answer.Pair.{Pair as Numbers}
use Rattle.lp_pattern.specs.Growing.{IsPairOf}
use Rattle.lp_pattern.specs.Stripping.{IsShut}
use Rattle.lp_pattern.specs.Under.{IsReading}
use Rattle.lp_pattern.specs.declared.bindings.Bindings.{Bindings}

-- a pair with all bindings put in
abbrev pub pair_under : Nodes → Closing → Numbers → Pair
pair_under b c q = record { left = closed c (tree b q.left.0); right = closed c (tree b q.right.0); level = q.level }

-- the first so many terms, with all bindings put in
pub record AreFilled (s : Bindings) (old new : Nodes) (ts made : List TermId) (at : ℕ) : Type 0 where
  pub kept : Extends old new
  pub few : at ≤ length ts
  pub count : length made ≡ at
  pub within : AreTermsOf new made
  pub are : (c : Closing) → IsReading old s c → IsShut c → AreTermsOf old ts → map (λ t. tree new t.0) made ≡ map (λ t. closed c (tree old t.0)) (take at ts)

-- so pairs
pub record ArePairsFilled (s : Bindings) (old new : Nodes) (ps made : List Numbers) (at : ℕ) : Type 0 where
  pub kept : Extends old new
  pub few : at ≤ length ps
  pub within : All (IsPairOf (length new.terms)) made
  pub are : (c : Closing) → IsReading old s c → IsShut c → All (IsPairOf (length old.terms)) ps → map (pair_of new) made ≡ map (pair_under old c) (take at ps)

-- the first so many terms in another bank
pub record AreCopied (from old new : Nodes) (before copies : Changed) (ts made : List TermId) (at : ℕ) : Type 0 where
  pub kept : Extends old new
  pub few : at ≤ length ts
  pub count : length made ≡ at
  pub within : AreTermsOf new made
  pub are : AreMade same_map from old before → map (λ t. tree new t.0) made ≡ map (λ t. tree from t.0) (take at ts)
  pub memo : AreMade same_map from old before → AreMade same_map from new copies

-- so pairs
pub record ArePairsCopied (from old new : Nodes) (before copies : Changed) (ps made : List Numbers) (at : ℕ) : Type 0 where
  pub kept : Extends old new
  pub few : at ≤ length ps
  pub within : All (IsPairOf (length new.terms)) made
  pub are : AreMade same_map from old before → map (pair_of new) made ≡ map (pair_of from) (take at ps)
  pub memo : AreMade same_map from old before → AreMade same_map from new copies
