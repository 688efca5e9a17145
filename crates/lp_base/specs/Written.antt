-- What a sink was given, where it tells it.
use Rattle.std.specs.Prelude.{◌≡◌, ℕ, List, ◌++◌, take, Option, Some, IfSome}

-- where the sink tells what it holds now, it told it before, and the piece was appended to that
abbrev pub Appends : Option (List ℕ) → Option (List ℕ) → List ℕ → Type 0
Appends old new piece = IfSome new (λ now. (before : List ℕ) × (old ≡ Some before) × (now ≡ before ++ piece))

-- a prefix of the piece was appended
abbrev pub AppendsPrefix : Option (List ℕ) → Option (List ℕ) → List ℕ → Type 0
AppendsPrefix old new piece = (n : ℕ) × Appends old new (take n piece)
