-- Places that are begun on the way through a term: each waits for what becomes of one of its parts.
use Rattle.std.specs.Prelude.{◌≡◌, ℕ, ◌+◌, ◌*◌, ◌<◌, List, [], ◌∷◌, ◌++◌, length, map, All}
use Rattle.lp_calculus.specs.Term.{Term, replace}
use Rattle.lp_term.specs.Nodes.{Nodes, tree}
use Rattle.lp_term.specs.Walk.{trees, size}
use Rattle.lp_term.specs.Frame.{in_order}
use Rattle.lp_term.specs.Change.{changed, value, IsPlace, ArePlaces}
use Rattle.lp_term.specs.Opened.{joined}
use Rattle.lp_term.specs.declared.node.TermId.{TermId}
use Rattle.lp_term.specs.declared.change.Change.{Change}
use Rattle.lp_term.specs.declared.change.Change.TheVariants.{Raise, Put}
use Rattle.lp_term.specs.declared.started.Started.{Started}
use Rattle.lp_term.specs.declared.started.Move.{Move}
use Rattle.lp_term.specs.declared.started.Move.TheVariants.{On, Done}

-- what becomes of the term as a part of the place
abbrev pub part : (given : List TermId) → Nodes → Started → TermId → Term
part vs b w t = replace (changed vs b w.change) w.depth (tree b t.0)

-- what was made of the first parts, and what becomes of these, which are left and of which the last comes first, make up what becomes of the place
pub record HasPlaces (vs : List TermId) (b : Nodes) (w : Started) (rest : List TermId) : Type 0 where
  pub place : IsPlace vs b w.place
  pub done : All (λ t. t.0 < length b.terms) w.done.items
  pub left : ArePlaces vs b w.change w.depth rest
  pub some : 0 < length w.done.items + length rest
  pub value : value vs b w.place ≡ joined w.abstraction (in_order b w.done.items ++ map (replace (changed vs b w.change) w.depth) (trees b rest))

abbrev pub IsStarted : (given : List TermId) → Nodes → Started → Type 0
IsStarted vs b w = HasPlaces vs b w w.left.items

-- one of its parts, which is left, is not among those that are left
abbrev pub IsHalted : (given : List TermId) → Nodes → Started → TermId → Type 0
IsHalted vs b w t = HasPlaces vs b w (w.left.items ++ t ∷ [])

-- the outermost place is to become the first term and waits for the next one; the innermost waits for the second term
abbrev pub AwaitsValue : (given : List TermId) → Nodes → Term → List Started → Term → Type 0
AwaitsValue vs b v [] u = v ≡ u
AwaitsValue vs b v (w ∷ ws) u = (value vs b w.place ≡ v) × (t : TermId) × IsHalted vs b w t × AwaitsValue vs b (part vs b w t) ws u

-- where values are put they have to be raised besides
abbrev pub factor : Change → ℕ
factor (Raise by) = 2
factor Put = 4

abbrev pub part_sizes : (given : List TermId) → Nodes → Started → List TermId → ℕ
part_sizes vs b w [] = 0
part_sizes vs b w (t ∷ ts) = size (part vs b w t) + part_sizes vs b w ts

-- how much is left to be done
abbrev pub toil : (given : List TermId) → Nodes → Started → ℕ
toil vs b w = 1 + factor w.change * part_sizes vs b w w.left.items

abbrev pub all_toil : (given : List TermId) → Nodes → List Started → ℕ
all_toil vs b [] = 0
all_toil vs b (w ∷ ws) = toil vs b w + all_toil vs b ws

-- where a move leads: to a place that the others wait for, with less left to be done; or to what the outermost place becomes
abbrev pub IsAhead : (given : List TermId) → Nodes → (whole : Term) → (before : ℕ) → List Started → Move → Type 0
IsAhead vs b v n ws (On w) = IsStarted vs b w × AwaitsValue vs b v ws (value vs b w.place) × (all_toil vs b ws + toil vs b w < n)
IsAhead vs b v n ws (Done made) = (made.0 < length b.terms) × (tree b made.0 ≡ v)
