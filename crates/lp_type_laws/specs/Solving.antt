-- First-order unification of types, one equation at a time (Robinson 1965; Martelli and Montanari 1982): depth first, left to right,
-- the equations of parts in front, each binding applied at once.
use Rattle.std.specs.Prelude.{ℕ, zero, suc, List, [], ◌∷◌, ◌++◌, map, Option, Some, None, nat_eq, nat_lt, if◌then◌else◌}
use Rattle.lp_calculus.specs.Types.{Ty, Tys, var, param, con, arrow, no_types, types, instance}
use Rattle.lp_type_laws.specs.Equations.{Equation, equation, one, put_equation, occurs}

-- what an equation turns out to be
pub data Look : Type 0 where
  nothing : Look
  parts : List Equation → Look
  binds : ℕ → Ty → Look
  clash : Look

abbrev pub bind_to : ℕ → Ty → Look
bind_to x t = if occurs x t then clash else binds x t

-- of two variables the younger is bound
abbrev pub look_vars : ℕ → ℕ → Look
look_vars x y = if nat_eq x y then nothing else (if nat_lt x y then binds y (var x) else binds x (var y))

abbrev pub pairs : Tys → Tys → Option (List Equation)
pairs no_types no_types = Some []
pairs no_types (types u us) = None
pairs (types t ts) no_types = None
pairs (types t ts) (types u us) = elim (pairs ts us) [ None ↦ None | Some es ↦ Some (equation t u ∷ es) ]

abbrev pub look_parts : Option (List Equation) → Look
look_parts None = clash
look_parts (Some es) = parts es

abbrev pub look : Ty → Ty → Look
look (var x) (var y) = look_vars x y
look (var x) t = bind_to x t
look t (var y) = bind_to y t
look (param k) (param l) = if nat_eq k l then nothing else clash
look (con c ts) (con d us) = if nat_eq c d then look_parts (pairs ts us) else clash
look (arrow a b) (arrow c d) = parts (equation a c ∷ equation b d ∷ [])
look t u = clash

pub data Outcome : Type 0 where
  unfinished : Outcome
  fails : Outcome
  solved : (ℕ → Ty) → Outcome

-- at most n equations taken, where the types so far are θ
abbrev pub solve : ℕ → List Equation → (ℕ → Ty) → Outcome
solve zero [] θ = solved θ
solve zero (e ∷ es) θ = unfinished
solve (suc n) [] θ = solved θ
solve (suc n) (equation a b ∷ es) θ = elim (look a b) [
  | nothing ↦ solve n es θ
  | parts ps ↦ solve n (ps ++ es) θ
  | binds x t ↦ solve n (map (put_equation (one x t)) es) (λ i. instance (one x t) (θ i))
  | clash ↦ fails
]

-- what an equation in front of others leads to
pub data Turn : Type 0 where
  clashes : Turn
  goes : List Equation → (ℕ → Ty) → Turn

abbrev pub turn_of : Look → List Equation → (ℕ → Ty) → Turn
turn_of nothing es θ = goes es θ
turn_of (parts ps) es θ = goes (ps ++ es) θ
turn_of (binds x t) es θ = goes (map (put_equation (one x t)) es) (λ i. instance (one x t) (θ i))
turn_of clash es θ = clashes

abbrev pub turn : Equation → List Equation → (ℕ → Ty) → Turn
turn (equation a b) es θ = turn_of (look a b) es θ
