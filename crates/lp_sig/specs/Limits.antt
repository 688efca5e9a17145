-- What a declaration shows by itself: the limits that it keeps, and words that stand a second time.
use Rattle.std.specs.Prelude.{ℕ, ◌≤◌, ◌≡◌, ◌<◌, List, [], ◌∷◌, map, take, length, All, Contains, slice_index_or}
use Rattle.lp_base.specs.declared.limits.TheConstants.{MAX_ARGUMENTS, MAX_NAME_BYTES}
use Rattle.lp_base.specs.declared.place.Spot.{Spot}
use Rattle.lp_syntax.specs.declared.text.Declaration.{Declaration}
use Rattle.lp_syntax.specs.declared.text.Declaration.TheVariants.{Kinds, LocalKinds, Constants, Locals, Abbreviation, Accumulate, AccumSig, Fixities}
use Rattle.lp_sig.specs.Pieces.{spelled}

abbrev pub IsShort : List ℕ → Spot → Type 0
IsShort text name = length (spelled text name) ≤ MAX_NAME_BYTES

abbrev pub AreShort : List ℕ → List Spot → Type 0
AreShort text names = All (IsShort text) names

-- no word stands a second time
abbrev pub Apart : List (List ℕ) → Type 0
Apart [] = Unit {0}
Apart (n ∷ ns) = (Contains ns n → ⊥) × Apart ns

abbrev pub AreApart : List ℕ → List Spot → Type 0
AreApart text words = Apart (map (λ w. spelled text w) words)

-- the first word that stands a second time
pub record IsRepeated (text : List ℕ) (words : List Spot) (s : Spot) : Type 0 where
  pub k : ℕ
  pub inside : k < length words
  pub word : slice_index_or words k s ≡ s
  pub again : Contains (map (λ w. spelled text w) (take k words)) (spelled text s)
  pub before : AreApart text (take k words)

-- a declaration's names have at most 255 bytes each, a kind at most 255 arguments, and an abbreviation at most 255
-- parameters, none of them twice
abbrev pub IsWithin : List ℕ → Declaration → Type 0
IsWithin text (Kinds names n) = AreShort text names.items × (n ≤ MAX_ARGUMENTS)
IsWithin text (LocalKinds names n) = Unit {0}
IsWithin text (Constants names ty) = AreShort text names.items
IsWithin text (Locals names ty) = Unit {0}
IsWithin text (Abbreviation name ps ty) = IsShort text name × AreApart text ps.items × (length ps.items ≤ MAX_ARGUMENTS)
IsWithin text (Accumulate words) = Unit {0}
IsWithin text (AccumSig words) = Unit {0}
IsWithin text (Fixities names f n) = Unit {0}

abbrev pub AreWithin : List ℕ → List Declaration → Type 0
AreWithin text lines = All (IsWithin text) lines
