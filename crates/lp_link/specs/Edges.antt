-- The copies below the root, each with the copy above it: pairs of modules.
use Rattle.std.specs.Prelude.{◌≡◌, ℕ, List, [], ◌∷◌, ◌++◌, get_or}

-- those below a copy of a module, by the entries of its list, in the order of copies: those below an entry's copy, then that copy
pub data Edges (uses : List (List ℕ)) : (above : ℕ) → (entries : List ℕ) → List (ℕ × ℕ) → Type 0 where
  no_edge : (above : ℕ) → Edges uses above [] []
  edge : (above m : ℕ) (rest : List ℕ) (inner others all : List (ℕ × ℕ)) → Edges uses m (get_or uses m []) inner → Edges uses above rest others → all ≡ inner ++ (m, above) ∷ others → Edges uses above (m ∷ rest) all
