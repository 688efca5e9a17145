-- Variables around a term that differ in their registers alone.
use Rattle.std.specs.Prelude.{◌≡◌, ℕ, List, [], ◌∷◌, Option, Some, None}
use Rattle.lp_gen.specs.Steps.{Seen, Around}

abbrev pub SameSeen : Option Seen → Option Seen → Type 0
SameSeen None None = Unit {0}
SameSeen None (Some w) = ⊥
SameSeen (Some v) None = ⊥
SameSeen (Some v) (Some w) = (v.of ≡ w.of) × (v.is_set ≡ w.is_set)

abbrev pub AllSame : List Seen → List Seen → Type 0
AllSame [] [] = Unit {0}
AllSame [] (w ∷ ws) = ⊥
AllSame (v ∷ vs) [] = ⊥
AllSame (v ∷ vs) (w ∷ ws) = ((v.of ≡ w.of) × (v.is_set ≡ w.is_set)) × AllSame vs ws

pub record IsAlike (a b : Around) : Type 0 where
  pub base : a.base ≡ b.base
  pub own : AllSame a.own b.own
  pub captured : (l : ℕ) → SameSeen (a.captured l) (b.captured l)
