-- The tree of copies: below each copy stands one for each entry of its accumulate list, in order, a repeated entry giving a further copy.
use Rattle.std.specs.Prelude.{◌≡◌, ℕ, ◌+◌, ◌<◌, ◌≤◌, List, [], ◌∷◌, ◌++◌, length, drop, get_or, All}
use Rattle.lp_copies.specs.declared.fault.TreeRefusal.{TreeRefusal}
use Rattle.lp_copies.specs.declared.fault.TreeRefusal.TheVariants as fault

-- the modules of the copies below one, by the accumulate list of each module, in the order of copies: those below a copy, then the copy itself
pub data Copies (uses : List (List ℕ)) : List ℕ → List ℕ → Type 0 where
  no_copy : Copies uses [] []
  copy : (m : ℕ) (rest below others all : List ℕ) → Copies uses (get_or uses m []) below → Copies uses rest others → all ≡ below ++ m ∷ others → Copies uses (m ∷ rest) all

-- the copies that are open, the innermost first: each with the number of the next entry of its list. They are left one behind the other, each
-- when the rest of its list has been copied
abbrev pub RestOfCopies : List (List ℕ) → List ℕ → List (ℕ × ℕ) → List ℕ → Type 0
RestOfCopies uses left [] all = left ≡ all
RestOfCopies uses left (f ∷ fs) all = (below : List ℕ) × Copies uses (drop f.1 (get_or uses f.0 [])) below × RestOfCopies uses (left ++ (below ++ f.0 ∷ [])) fs all

pub record Copying (uses : List (List ℕ)) (root : ℕ) (left : List ℕ) (entered : ℕ) (frames : List (ℕ × ℕ)) : Type 0 where
  pub count : entered ≡ length left + length frames
  pub few : entered ≤ 4096
  pub within : All (λ f. f.0 < length uses) frames
  pub only : (all : List ℕ) → RestOfCopies uses left frames all → Copies uses (root ∷ []) all
  pub each : (all : List ℕ) → Copies uses (root ∷ []) all → RestOfCopies uses left frames all

-- a copy of the next entry of the innermost open copy is opened
pub record IsOpened (uses : List (List ℕ)) (old : List (ℕ × ℕ)) (m : ℕ) (new : List (ℕ × ℕ)) : Type 0 where
  pub at : ℕ
  pub next : ℕ
  pub around : List (ℕ × ℕ)
  pub before : old ≡ (at, next) ∷ around
  pub entry : drop next (get_or uses at []) ≡ m ∷ drop (next + 1) (get_or uses at [])
  pub after : new ≡ (m, 0) ∷ (at, next + 1) ∷ around

-- the innermost open copy, whose list has no more entries, is left
pub record IsClosed (uses : List (List ℕ)) (old : List (ℕ × ℕ)) (m : ℕ) (new : List (ℕ × ℕ)) : Type 0 where
  pub next : ℕ
  pub before : old ≡ (m, next) ∷ new
  pub entry : drop next (get_or uses m []) ≡ []

-- why there are not so many copies
abbrev pub IsTooMany : List (List ℕ) → ℕ → TreeRefusal → Type 0
IsTooMany uses root fault.TooMany = (all : List ℕ) → Copies uses (root ∷ []) all → 4096 < length all
IsTooMany uses root fault.Memory = Unit {0}
