-- What the parts of types and terms are that a reader has, and those that wait on a stack, of which the last one comes first.
use Rattle.std.specs.Prelude.{ℕ, ◌<◌, List, length, map, reverse}
use Rattle.lp_calculus.specs.Types.{Ty}
use Rattle.lp_calculus.specs.Term.{Term}
use Rattle.lp_term.specs.declared.node.TypeId.{TypeId}
use Rattle.lp_term.specs.declared.node.TermId.{TermId}
use Rattle.lp_term.specs.Nodes.{Nodes, tree}
use Rattle.lp_cert.specs.Reading.{TypeTop, parameter, kind, an_arrow, TermTop, leaf, an_abstraction, an_application}
use Rattle.lp_cert.specs.Same.{types_in, terms_in}
use Rattle.lp_cert.specs.declared.types.Part as type_part
use Rattle.lp_cert.specs.declared.types.Part.TheVariants as type_parts
use Rattle.lp_cert.specs.declared.terms.Part as term_part
use Rattle.lp_cert.specs.declared.terms.Part.TheVariants as term_parts

abbrev pub type_top_of : type_part.Part → TypeTop
type_top_of (type_parts.Param v) = parameter v
type_top_of (type_parts.Con k n) = kind k n
type_top_of type_parts.Arrow = an_arrow

abbrev pub term_top_of : Nodes → term_part.Part → TermTop
term_top_of b (term_parts.Leaf t) = leaf (tree b t.0)
term_top_of b term_parts.Abs = an_abstraction
term_top_of b term_parts.App = an_application

-- the term that the part is stands in the bank
abbrev pub IsPartInside : Nodes → term_part.Part → Type 0
IsPartInside b (term_parts.Leaf t) = t.0 < length b.terms
IsPartInside b term_parts.Abs = Unit {0}
IsPartInside b term_parts.App = Unit {0}

abbrev pub term_tops_of : Nodes → List term_part.Part → List TermTop
term_tops_of b ps = map (term_top_of b) ps

abbrev pub types_stacked : Nodes → List TypeId → List Ty
types_stacked b ids = types_in b (reverse ids)

abbrev pub terms_stacked : Nodes → List TermId → List Term
terms_stacked b ids = terms_in b (reverse ids)
