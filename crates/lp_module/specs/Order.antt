-- The order of modules: the ways by which they lead to one another, circles, and the walk from the root.
use Rattle.std.specs.Prelude.{◌≡◌, ℕ, ◌<◌, List, [], ◌∷◌, ◌++◌, map, get_or, All, Contains}
use Rattle.lp_base.specs.declared.place.Spot.{Spot}

-- a word of accumulate with the number of the module that it names
abbrev pub Way : Type 0
Way = Spot × ℕ

-- the ways out of a module, in text order
abbrev pub out_of : List (List Way) → ℕ → List Way
out_of ways m = get_or ways m []

-- the modules that a module accumulates, in text order
abbrev pub used_by : List (List Way) → ℕ → List ℕ
used_by ways m = map (λ w. w.1) (out_of ways m)

-- one module is another, or leads to it by words of accumulate
pub data Leads (ways : List (List Way)) : ℕ → ℕ → Type 0 where
  there : (m : ℕ) → Leads ways m m
  onward : (m k n : ℕ) → Contains (used_by ways m) k → Leads ways k n → Leads ways m n

-- none of these words leads back to a module
abbrev pub LeadNowhereBack : List (List Way) → ℕ → List Way → Type 0
LeadNowhereBack ways m words = All (λ w. Leads ways w.1 m → ⊥) words

-- no word of accumulate leads back to the module in which it stands
abbrev pub HasNoCircle : List (List Way) → Type 0
HasNoCircle ways = (m : ℕ) → LeadNowhereBack ways m (out_of ways m)

-- the first word, in the order of the texts, that leads back to the module in which it stands
pub record IsFirstCircle (ways : List (List Way)) (word : Spot) : Type 0 where
  pub home : ℕ
  pub to : ℕ
  pub before : List Way
  pub after : List Way
  pub out : out_of ways home ≡ before ++ (word, to) ∷ after
  pub circle : Leads ways to home
  pub earlier_words : LeadNowhereBack ways home before
  pub earlier_modules : (m : ℕ) → m < home → LeadNowhereBack ways m (out_of ways m)

-- the walk: after some modules were visited, these are visited in order; each that is new goes behind all that it accumulates
pub data Visits (ways : List (List Way)) : List ℕ → List ℕ → List ℕ → Type 0 where
  visited : (before : List ℕ) → Visits ways before [] before
  again : (before rest after : List ℕ) (m : ℕ) → Contains before m → Visits ways before rest after → Visits ways before (m ∷ rest) after
  first_time : (before between rest after : List ℕ) (m : ℕ) → (Contains before m → ⊥) → Visits ways before (used_by ways m) between → Visits ways (between ++ m ∷ []) rest after → Visits ways before (m ∷ rest) after

-- each of these modules stands once, behind all that it accumulates
pub data Ordered (ways : List (List Way)) : List ℕ → Type 0 where
  no_module : Ordered ways []
  one_more : (front order : List ℕ) (m : ℕ) → Ordered ways front → (Contains front m → ⊥) → All (Contains front) (used_by ways m) → order ≡ front ++ m ∷ [] → Ordered ways order
