-- Places on the way to an index, and what they tell of whether it is there.
use Rattle.std.specs.Prelude.{◌≡◌, ℕ, ◌+◌, ◌<◌, ◌^◌, List, [], ◌∷◌, length, All, Bool, true, false}
use Rattle.lp_calculus.specs.Term.{Term}
use Rattle.lp_calculus.specs.Normal.{is_absent}
use Rattle.lp_term.specs.Nodes.{Nodes, tree}
use Rattle.lp_term.specs.Walk.{size}
use Rattle.lp_term.specs.declared.absent.Below.{Below}
use Rattle.lp_term.specs.declared.node.TermId.{TermId}

abbrev pub absent_at : Nodes → Below → Bool
absent_at b p = is_absent p.depth (tree b p.id.0)

pub record IsBelow (b : Nodes) (p : Below) : Type 0 where
  pub id : p.id.0 < length b.terms
  pub depth : p.depth + p.id.0 < 2 ^ 64

abbrev pub size_at : Nodes → Below → ℕ
size_at b p = size (tree b p.id.0)

abbrev pub total : Nodes → List Below → ℕ
total b [] = 0
total b (p ∷ ps) = size_at b p + total b ps

-- the terms, each below so many abstractions
abbrev pub places : ℕ → List TermId → List Below
places d [] = []
places d (t ∷ ts) = record { id = t; depth = d } ∷ places d ts

-- the index is absent where it is absent in those of the places that are left whose terms are smaller
abbrev pub IsSettled : Nodes → List Below → Below → Type 0
IsSettled b left p = All (λ q. size_at b q < size_at b p → absent_at b q ≡ true) left → absent_at b p ≡ true

-- the index is in the place exactly where it is in one of these, which are smaller
pub record AreParts (b : Nodes) (p : Below) (ps : List Below) : Type 0 where
  pub within : All (IsBelow b) ps
  pub smaller : All (λ q. size_at b q < size_at b p) ps
  pub fewer : total b ps < size_at b p
  pub absent : All (λ q. absent_at b q ≡ true) ps → absent_at b p ≡ true
  pub present : All (λ q. absent_at b q ≡ false → absent_at b p ≡ false) ps

-- the index is in the term exactly where it is in one of the places that are left, and is absent in the marked ones if it is absent in smaller ones that are left
pub record Leads (b : Nodes) (t : Term) (marks left : List Below) : Type 0 where
  pub within : All (IsBelow b) left
  pub settled : All (IsSettled b left) marks
  pub absent : All (λ q. absent_at b q ≡ true) left → is_absent 0 t ≡ true
  pub present : All (λ q. absent_at b q ≡ false → is_absent 0 t ≡ false) left
