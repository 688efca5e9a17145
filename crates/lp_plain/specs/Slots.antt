-- The values of a clause's variables in a try.
use Rattle.std.specs.Prelude.{◌≡◌, ℕ, ◌<◌, List, map, length, get_or, All, Option, None}
use Rattle.lp_term.specs.Nodes.{Nodes, tree}
use Rattle.lp_term.specs.declared.node.TermId.{TermId}
use Rattle.lp_plain.specs.Heads.{trees_of, slot_term}

abbrev pub AreIn : Nodes → List TermId → Type 0
AreIn b ts = All (λ i. i < length b.terms) (map (λ t. t.0) ts)

-- the term is what the variable k of this slot is, where the goal has these arguments
pub record IsSlotted (old new : Nodes) (args : List TermId) (next level k : ℕ) (slot : Option ℕ) (t : TermId) : Type 0 where
  pub known : t.0 < length new.terms
  pub is : tree new t.0 ≡ slot_term (trees_of old args) next level k slot

-- each variable has the value of its slot
abbrev pub AreSlotted : (old new : Nodes) → (args : List TermId) → (next level : ℕ) → (slots : List (Option ℕ)) → (values : List TermId) → Type 0
AreSlotted old new args next level slots values =
    (k : ℕ) → (d : TermId) → k < length values → IsSlotted old new args next level k (get_or slots k None) (get_or values k d)
