-- Tasks that are done one after the other: each takes the newest values that were made, and makes one.
use Rattle.std.specs.Prelude.{◌≡◌, List, [], ◌∷◌, ◌++◌, map, reverse, All}

-- the tasks, the next one first, lead from what was made to this value as the newest
abbrev pub Ends : {T V : Type 0} → (T → List V → V → Type 0) → List T → List V → V → Type 0
Ends {V = V} Does [] made r = (rest : List V) × (made ≡ rest ++ r ∷ [])
Ends {V = V} Does (t ∷ ts) made r = (rest : List V) × (us : List V) × (v : V) × (made ≡ rest ++ us) × Does t us v × Ends Does ts (rest ++ v ∷ []) r

-- the tasks and what was made by numbers, the next task and the newest one at the end
pub record IsLeft {T I V : Type 0} (Does : T → List V → V → Type 0) (read : I → V) (Known : I → Type 0) (tasks : List T) (made : List I) (r : V) : Type 0 where
  pub known : All Known made
  pub ends : Ends Does (reverse tasks) (map read made) r
