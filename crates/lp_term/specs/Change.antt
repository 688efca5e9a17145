-- What becomes of a term on the way through it, and what may be known of that.
use Rattle.std.specs.Prelude.{◌≡◌, ℕ, ◌+◌, ◌<◌, ◌^◌, List, length, All}
use Rattle.lp_calculus.specs.Term.{Term, replace, raised}
use Rattle.lp_term.specs.Nodes.{Nodes, tree}
use Rattle.lp_term.specs.Walk.{Everywhere}
use Rattle.lp_term.specs.Raise.{FitsRaised, FitsEach}
use Rattle.lp_term.specs.Several.{put_each}
use Rattle.lp_term.specs.Frame.{in_order}
use Rattle.lp_term.specs.declared.node.TermId.{TermId}
use Rattle.lp_term.specs.declared.change.Change.{Change}
use Rattle.lp_term.specs.declared.change.Change.TheVariants.{Raise, Put}
use Rattle.lp_term.specs.declared.change.Place.{Place}
use Rattle.lp_term.specs.declared.change.Known.{Known}

-- the term that stands in the place of an index, below so many abstractions, where these values are given
abbrev pub changed : (given : List TermId) → Nodes → Change → ℕ → ℕ → Term
changed vs b (Raise by) = raised by
changed vs b Put = put_each (in_order b vs)

-- what becomes of the place
abbrev pub value : (given : List TermId) → Nodes → Place → Term
value vs b p = replace (changed vs b p.change) p.depth (tree b p.id.0)

-- the indices can be raised, and the values that are put are in the bank
abbrev pub IsChange : (given : List TermId) → Nodes → Change → ℕ → Term → Type 0
IsChange vs b (Raise by) d t = Everywhere (FitsRaised by) d t
IsChange vs b Put d t = All (λ v. v.0 < length b.terms) vs × Everywhere (FitsEach (in_order b vs)) d t

pub record IsPlace (vs : List TermId) (b : Nodes) (p : Place) : Type 0 where
  pub id : p.id.0 < length b.terms
  pub depth : p.depth + p.id.0 < 2 ^ 64
  pub change : IsChange vs b p.change p.depth (tree b p.id.0)

pub record IsKnown (vs : List TermId) (b : Nodes) (k : Known) : Type 0 where
  pub place : IsPlace vs b k.place
  pub made : k.made.0 < length b.terms
  pub same : tree b k.made.0 ≡ value vs b k.place

-- a place for each of the terms
abbrev pub ArePlaces : (given : List TermId) → Nodes → Change → ℕ → List TermId → Type 0
ArePlaces vs b c d ids = All (λ t. IsPlace vs b (record { id = t; depth = d; change = c })) ids
