-- What a look for a variable, a turn and a whole run come to within a limit of units.
use Rattle.std.specs.Prelude.{◌≡◌, ℕ, ◌+◌, ◌<◌, ◌≤◌, List, true, false}
use Rattle.lp_calculus.specs.Types.{Ty, instance}
use Rattle.lp_term.specs.Nodes.{Nodes}
use Rattle.lp_type_laws.specs.Equations.{occurs, one}
use Rattle.lp_type_laws.specs.Solving.{clashes, goes, turn, solved, fails}
use Rattle.lp_type_laws.specs.Units.{visited, cost, End, spent, ended}
use Rattle.lp_type_unify.specs.declared.bindings.Pair.{Pair}
use Rattle.lp_type_unify.specs.declared.counted.Sight.{Sight}
use Rattle.lp_type_unify.specs.declared.counted.Taken.{Taken}
use Rattle.lp_type_unify.specs.declared.counted.EquationRefusal.{EquationRefusal}
use Rattle.lp_type_unify.specs.Reading.{read_pair, read_pairs}

-- a look for x in t with so many units
abbrev pub Seen : Sight → ℕ → Ty → ℕ → Type 0
Seen (Sight.Found rest) x t left = (occurs x t ≡ true) × (left ≡ visited x t + rest)
Seen (Sight.Absent rest) x t left = (occurs x t ≡ false) × (left ≡ visited x t + rest)
Seen Sight.Spent x t left = left < visited x t

-- x was bound to t, or it occurs in t, or the look for it takes more units
abbrev pub BoundWithin : Taken → Nodes → ℕ → Ty → ℕ → (θ ι : ℕ → Ty) → (Kept : Type 0) → Type 0
BoundWithin (Taken.Goes rest) bank x t left θ ι Kept =
    (occurs x t ≡ false) × (left ≡ visited x t + rest) × (ι ≡ (λ i. instance (one x t) (θ i))) × Kept
BoundWithin Taken.Clashes bank x t left θ ι Kept = (occurs x t ≡ true) × (visited x t ≤ left)
BoundWithin Taken.Spent bank x t left θ ι Kept = left < visited x t

-- a turn, with its cost
abbrev pub Stepped : Taken → (τ θ ι : ℕ → Ty) → Pair → (old new : List Pair) → ℕ → (Kept : Type 0) → Type 0
Stepped (Taken.Goes rest) τ θ ι p old new left Kept =
    (turn (read_pair τ θ p) (read_pairs τ θ old) θ ≡ goes (read_pairs τ ι new) ι) × (left ≡ cost (read_pair τ θ p) + rest) × Kept
Stepped Taken.Clashes τ θ ι p old new left Kept = (turn (read_pair τ θ p) (read_pairs τ θ old) θ ≡ clashes) × (cost (read_pair τ θ p) ≤ left)
Stepped Taken.Spent τ θ ι p old new left Kept = left < cost (read_pair τ θ p)

-- the run was solved with these types for the variables, and so many units were left of the limit
abbrev pub HasEnded : End → (limit left : ℕ) → (ℕ → Ty) → Type 0
HasEnded E limit left θ = (used : ℕ) × (E ≡ ended used (solved θ)) × (limit ≡ used + left)

-- a refusal has its cause
abbrev pub IsRefused : EquationRefusal → End → Type 0
IsRefused EquationRefusal.Fails E = (used : ℕ) × (E ≡ ended used fails)
IsRefused EquationRefusal.Deep E = E ≡ spent
IsRefused EquationRefusal.Memory E = Unit {0}

abbrev pub IfFails : EquationRefusal → Type 0 → Type 0
IfFails EquationRefusal.Fails P = P
IfFails EquationRefusal.Deep P = Unit {0}
IfFails EquationRefusal.Memory P = Unit {0}
