-- The units that solving costs, and what it comes to within a limit of units.
use Rattle.std.specs.Prelude.{ℕ, zero, suc, ◌+◌, List, [], ◌∷◌, nat_eq, nat_lt, if◌then◌else◌}
use Rattle.lp_calculus.specs.Types.{Ty, Tys, var, param, con, arrow, no_types, types}
use Rattle.lp_type_laws.specs.Equations.{Equation, equation, occurs}
use Rattle.lp_type_laws.specs.Solving.{clashes, goes, turn, Outcome, solve}

-- the nodes that a look for x visits: depth first, left to right, up to the first occurrence
abbrev mutual
  pub visited : ℕ → Ty → ℕ
  visited x (var y) = 1
  visited x (param k) = 1
  visited x (con c ts) = suc (visited_in x ts)
  visited x (arrow a b) = suc (visited x a + (if occurs x a then 0 else visited x b))

  pub visited_in : ℕ → Tys → ℕ
  visited_in x no_types = 0
  visited_in x (types t ts) = visited x t + (if occurs x t then 0 else visited_in x ts)

-- the visits of the occurs check, which runs for two different variables too
abbrev pub checked : Ty → Ty → ℕ
checked (var x) (var y) = if nat_eq x y then 0 else 1
checked (var x) t = visited x t
checked t (var y) = visited y t
checked t u = 0

-- one unit for the equation, and one for each visit
abbrev pub cost : Equation → ℕ
cost (equation a b) = suc (checked a b)

-- the units of at most n equations taken
abbrev pub units : ℕ → List Equation → (ℕ → Ty) → ℕ
units zero es θ = 0
units (suc n) [] θ = 0
units (suc n) (e ∷ es) θ = cost e + (elim (turn e es θ) [ clashes ↦ 0 | goes fs ι ↦ units n fs ι ])

-- how solving ends within a limit of units: the limit is passed, or so many units lead to an outcome
pub data End : Type 0 where
  spent : End
  ended : (used : ℕ) → Outcome → End

-- an equation costs one unit at least, so one more equation than the limit is enough
abbrev pub solve_within : (limit : ℕ) → List Equation → (ℕ → Ty) → End
solve_within limit es θ =
    if nat_lt limit (units (suc limit) es θ) then spent else ended (units (suc limit) es θ) (solve (suc limit) es θ)
