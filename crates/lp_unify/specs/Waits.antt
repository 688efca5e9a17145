-- The pairs that wait.
use Rattle.std.specs.Prelude.{◌≡◌, ℕ, ◌≤◌, List, [], ◌∷◌, length, take, drop}
use Rattle.lp_unify.specs.declared.delayed.Waiting.{Waiting}

-- the place of the first pair that waits
abbrev pub first_of : List Waiting → ℕ
first_of [] = 0
first_of (e ∷ []) = e.first
first_of (e ∷ f ∷ es) = first_of (f ∷ es)

-- the pairs that wait, oldest first
abbrev pub pairs_of : List Waiting → List Waiting
pairs_of es = drop (first_of es) es

-- the entries at each mark are kept
abbrev pub KeepsEntries : List Waiting → List Waiting → Type 0
KeepsEntries old new = (m : ℕ) → m ≤ length old → (m ≤ length new) × (take m new ≡ take m old)
