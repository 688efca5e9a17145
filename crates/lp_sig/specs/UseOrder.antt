-- The order in which abbreviations are settled: what a body uses comes before it.
use Rattle.std.specs.Prelude.{◌≡◌, ◌⊎◌, ℕ, List, [], ◌∷◌, Contains}
use Rattle.lp_sig.specs.Loading.{Way, ways_out}
use Rattle.lp_sig.specs.declared.walk.Step.{Step}
use Rattle.lp_sig.specs.declared.walk.Step.TheVariants.{Enter, Declare}

-- the places that are settled behind these steps, where those of P were before
abbrev pub Behind : (ℕ → Type 0) → List Step → ℕ → Type 0
Behind P [] k = P k
Behind P (Enter i ∷ steps) k = Behind P steps k
Behind P (Declare i ∷ steps) k = Behind (λ j. P j ⊎ (j ≡ i)) steps k

-- the uses of each place of G that is settled come before it
abbrev pub UsesComeFirst : List (List Way) → (ℕ → Type 0) → (ℕ → Type 0) → List Step → Type 0
UsesComeFirst ways G P [] = Unit {0}
UsesComeFirst ways G P (Enter i ∷ steps) = UsesComeFirst ways G P steps
UsesComeFirst ways G P (Declare i ∷ steps) = (G i → (w : Way) → Contains (ways_out ways i) w → P w.1) × UsesComeFirst ways G (λ j. P j ⊎ (j ≡ i)) steps
