-- What the parts of types are that a reader has, and the types of a stack, of which the last one comes first.
use Rattle.std.specs.Prelude.{List, map, reverse}
use Rattle.lp_calculus.specs.Types.{Ty}
use Rattle.lp_term.specs.declared.node.TypeId.{TypeId}
use Rattle.lp_term.specs.Nodes.{Nodes, type_tree}
use Rattle.lp_object.specs.Reading.{TypeTop, variable, kind, an_arrow}
use Rattle.lp_object.specs.declared.schemes.Part as type_part
use Rattle.lp_object.specs.declared.schemes.Part.TheVariants as type_parts

abbrev pub type_top_of : type_part.Part → TypeTop
type_top_of (type_parts.Var v) = variable v
type_top_of (type_parts.Con k n) = kind k n
type_top_of type_parts.Arrow = an_arrow

abbrev pub types_in : Nodes → List TypeId → List Ty
types_in b ids = map (λ t. type_tree b t.0) ids

abbrev pub types_stacked : Nodes → List TypeId → List Ty
types_stacked b ids = types_in b (reverse ids)
