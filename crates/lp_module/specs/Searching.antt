-- What has been found of the modules that one leads to, and how far the walk from the root has come.
use Rattle.std.specs.Global.{Global}
use Rattle.std.specs.Prelude.{◌≡◌, ℕ, suc, ◌+◌, ◌-◌, ◌<◌, ◌⊎◌, List, [], ◌∷◌, ◌++◌, map, length, drop, get_or, All, Contains, Bool, true, false, Option, Some, None, Vec}
use Rattle.lp_base.specs.declared.place.Spot.{Spot}
use Rattle.lp_module.specs.Order.{Way, out_of, used_by, Leads, LeadNowhereBack, HasNoCircle, IsFirstCircle, Visits}

abbrev pub ways_in : List (Vec Way Global) → List (List Way)
ways_in outs = map (λ out. out.items) outs

-- each way leads to a module
abbrev pub AreWithin : List (List Way) → Type 0
AreWithin ways = All (λ out. All (λ w. w.1 < length ways) out) ways

abbrev pub IsMarked : List Bool → ℕ → Type 0
IsMarked marks m = get_or marks m false ≡ true

abbrev pub unmarked : List Bool → ℕ
unmarked [] = 0
unmarked (true ∷ bs) = unmarked bs
unmarked (false ∷ bs) = suc (unmarked bs)

-- some of the modules to which one leads, in a list and marked
pub record IsFound (ways : List (List Way)) (from : ℕ) (marks : List Bool) (found : List ℕ) : Type 0 where
  pub count : length marks ≡ length ways
  pub places : unmarked marks + length found ≡ length ways
  pub listed : (m : ℕ) → IsMarked marks m → Contains found m
  pub within : All (λ m. m < length ways) found
  pub leads : All (Leads ways from) found

-- more was found
pub record FindsMore (marks : List Bool) (found : List ℕ) (marks_then : List Bool) (found_then : List ℕ) : Type 0 where
  pub more : List ℕ
  pub is : found_then ≡ found ++ more
  pub keeps : (m : ℕ) → IsMarked marks m → IsMarked marks_then m
  pub as_many : length marks_then ≡ length marks

-- all words of the first so many modules that were found lead to marked ones
abbrev pub AreClosed : List (List Way) → List Bool → List ℕ → ℕ → Type 0
AreClosed ways marks found next = (k : ℕ) → k < next → All (λ w. IsMarked marks w.1) (out_of ways (get_or found k 0))

-- exactly the modules to which one leads are marked
pub record IsReached (ways : List (List Way)) (from : ℕ) (marks : List Bool) : Type 0 where
  pub count : length marks ≡ length ways
  pub leads : (m : ℕ) → IsMarked marks m → Leads ways from m
  pub marked : (m : ℕ) → Leads ways from m → IsMarked marks m

-- the first modules, each with those to which it leads
abbrev pub AreReached : List (List Way) → List (Vec Bool Global) → Type 0
AreReached ways reached = (k : ℕ) (d : Vec Bool Global) → k < length reached → IsReached ways k (get_or reached k d).items

-- the first of these words that leads back
abbrev pub IsFirstBack : List (List Way) → ℕ → List Way → Option Spot → Type 0
IsFirstBack ways home words None = LeadNowhereBack ways home words
IsFirstBack ways home words (Some word) =
    (before : List Way) × (to : ℕ) × (after : List Way) × (words ≡ before ++ (word, to) ∷ after) × Leads ways to home × LeadNowhereBack ways home before

-- whether there is a circle
abbrev pub IsCircleFound : List (List Way) → Option Spot → Type 0
IsCircleFound ways None = HasNoCircle ways
IsCircleFound ways (Some word) = IsFirstCircle ways word

-- the walk: the module that is open and how many of those that it accumulates were visited, then the same of those around it
abbrev pub Frame : Type 0
Frame = ℕ × ℕ

-- each open module is accumulated by the one around it
abbrev pub IsPath : List (List Way) → ℕ → List Frame → Type 0
IsPath ways m [] = Unit {0}
IsPath ways m (f ∷ fs) = (f.0 < length ways) × Contains (used_by ways f.0) m × IsPath ways f.0 fs

-- the open modules are left, one behind the other, each when the rest of what it accumulates has been visited
abbrev pub Rest : List (List Way) → List ℕ → List Frame → List ℕ → Type 0
Rest ways order [] after = order ≡ after
Rest ways order (f ∷ fs) after = (between : List ℕ) × Visits ways order (drop f.1 (used_by ways f.0)) between × Rest ways (between ++ f.0 ∷ []) fs after

-- how much is left to do: of the modules that were not seen, and of the open ones
abbrev pub load : List (List Way) → List Bool → ℕ
load [] seen = 0
load (out ∷ outs) [] = 0
load (out ∷ outs) (true ∷ seen) = load outs seen
load (out ∷ outs) (false ∷ seen) = suc (length out) + load outs seen

abbrev pub open_load : List (List Way) → List Frame → ℕ
open_load ways [] = 0
open_load ways (f ∷ fs) = suc (length (used_by ways f.0) - f.1) + open_load ways fs

pub record Goes (ways : List (List Way)) (root : ℕ) (seen : List Bool) (order : List ℕ) (at next : ℕ) (open_ones : List Frame) : Type 0 where
  pub count : length seen ≡ length ways
  pub within : at < length ways
  pub opened : (m : ℕ) → Contains (at ∷ map (λ f. f.0) open_ones) m → IsMarked seen m
  pub placed : (m : ℕ) → Contains order m → IsMarked seen m
  pub known : (m : ℕ) → IsMarked seen m → Contains order m ⊎ Contains (at ∷ map (λ f. f.0) open_ones) m
  pub path : IsPath ways at open_ones
  pub rest : (after : List ℕ) → Rest ways order ((at, next) ∷ open_ones) after → Visits ways [] (root ∷ []) after
