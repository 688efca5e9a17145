-- The signatures that a text leads to by accum_sig, in load order, and where they lead in a circle.
use Rattle.std.specs.Global.{Global}
use Rattle.std.specs.Prelude.{◌≡◌, ℕ, ◌<◌, List, [], ◌∷◌, ◌++◌, Bool, true, false, take, replicate, length, Contains, Vec, filter_map, option_map, slice_index_or, slice_set}
use Rattle.lp_base.specs.declared.place.Spot.{Spot}
use Rattle.lp_syntax.specs.declared.text.Declaration.{Declaration}
use Rattle.lp_syntax.specs.declared.text.Declaration.TheVariants.{AccumSig}
use Rattle.lp_syntax.specs.declared.text.SignatureText.{SignatureText}
use Rattle.lp_sig.specs.Pieces.{spelled}
use Rattle.lp_sig.specs.Places.{first_place}
use Rattle.lp_sig.specs.declared.walk.Step.{Step}
use Rattle.lp_sig.specs.declared.walk.Step.TheVariants.{Enter, Declare}

-- a word of accum_sig with the number of the signature that it names
abbrev pub Way : Type 0
Way = Spot × ℕ

-- the words of the accum_sig sentences
abbrev pub accum_words : List Declaration → List Spot
accum_words [] = []
accum_words (AccumSig words ∷ ds) = words.items ++ accum_words ds
accum_words (_ ∷ ds) = accum_words ds

-- the words that are names of signatures
abbrev pub ways_in : List (List ℕ) → List ℕ → List Spot → List Way
ways_in names text words = filter_map (λ w. option_map (λ i. (w, i)) (first_place (spelled text w) names)) words

-- the words of each text, in text order
abbrev pub ways_between : List (List ℕ) → List (Vec ℕ Global) → List SignatureText → List (List Way)
ways_between names sources [] = []
ways_between names [] (t ∷ ts) = []
ways_between names (s ∷ ss) (t ∷ ts) = ways_in names s.items (accum_words t.lines.items) ∷ ways_between names ss ts

abbrev pub ways_out : List (List Way) → ℕ → List Way
ways_out ways i = slice_index_or ways i []

-- loading a signature, where some are marked as loaded: nothing for a second time; else its header, the signatures that it
-- names, in order, and its own declarations. The second list of marks is the one behind it. A number past the texts has none.
mutual
  pub data Loads (ways : List (List Way)) : List Bool → ℕ → List Step → List Bool → Type 0 where
    again : {old new : List Bool} {i : ℕ} {steps : List Step} → slice_index_or old i true ≡ true → steps ≡ [] → new ≡ old → Loads ways old i steps new
    first : {old new : List Bool} {i : ℕ} {steps : List Step} → slice_index_or old i true ≡ false → (inner : List Step) →
        LoadsAll ways (slice_set old i true) (ways_out ways i) inner new → steps ≡ Enter i ∷ (inner ++ Declare i ∷ []) → Loads ways old i steps new

  pub data LoadsAll (ways : List (List Way)) : List Bool → List Way → List Step → List Bool → Type 0 where
    none : {old new : List Bool} {words : List Way} {steps : List Step} → words ≡ [] → steps ≡ [] → new ≡ old → LoadsAll ways old words steps new
    next : {old new : List Bool} {words : List Way} {steps : List Step} → (w : Way) → (more : List Way) → words ≡ w ∷ more → (mid : List Bool) → (a b : List Step) →
        Loads ways old w.1 a mid → LoadsAll ways mid more b new → steps ≡ a ++ b → LoadsAll ways old words steps new

-- the steps from a root on, where nothing is loaded yet
abbrev pub IsLoadOrder : List (List Way) → ℕ → List Step → Type 0
IsLoadOrder ways root steps = (new : List Bool) × Loads ways (replicate (length ways) false) root steps new

-- a signature leads to another by accum_sig
pub data LeadsTo (ways : List (List Way)) : ℕ → ℕ → Type 0 where
  there : {a b : ℕ} → a ≡ b → LeadsTo ways a b
  onward : {a c : ℕ} → (w : Way) → Contains (ways_out ways a) w → LeadsTo ways w.1 c → LeadsTo ways a c

-- none of these words leads back to a signature
abbrev pub NoneLeads : List (List Way) → List Way → ℕ → Type 0
NoneLeads ways words i = (w : Way) → Contains words w → LeadsTo ways w.1 i → ⊥

abbrev pub HasNoCircle : List (List Way) → ℕ → Type 0
HasNoCircle ways i = NoneLeads ways (ways_out ways i) i

-- the first of these words that leads back to a signature
pub record IsCircle (ways : List (List Way)) (words : List Way) (i : ℕ) (s : Spot) : Type 0 where
  pub k : ℕ
  pub to : ℕ
  pub inside : k < length words
  pub word : slice_index_or words k (s, to) ≡ (s, to)
  pub leads : LeadsTo ways to i
  pub none : NoneLeads ways (take k words) i

-- the first circle in load order
pub record IsFirstCircle (ways : List (List Way)) (steps : List Step) (s : Spot) : Type 0 where
  pub k : ℕ
  pub i : ℕ
  pub inside : k < length steps
  pub entered : slice_index_or steps k (Enter i) ≡ Enter i
  pub circle : IsCircle ways (ways_out ways i) i s
  pub none : (j : ℕ) → Contains (take k steps) (Enter j) → HasNoCircle ways j
