-- What is left of a look through the terms in places: it falls with each place.
use Rattle.std.specs.Prelude.{ℕ, ◌+◌, ◌^◌, ◌<◌, List, length, map}
use Rattle.lp_term.specs.Nodes.{Nodes}
use Rattle.lp_plain.specs.declared.head.Place.{Place}
use Rattle.lp_plain.specs.inner.Looking.{weight_of_all, term_weight}

abbrev pub places_weight : Nodes → List Place → ℕ
places_weight b ps = weight_of_all (term_weight b) (map (λ (p : Place). p.term.0) ps)

-- how deep the term stands and its number are few together, where it is of the bank
abbrev pub IsShallow : Nodes → Place → Type 0
IsShallow b p = p.term.0 < length b.terms → p.depth + p.term.0 < 2 ^ 62
