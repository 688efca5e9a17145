-- What is left to be written of a type.
use Rattle.std.specs.Prelude.{ℕ, List, reverse}
use Rattle.std.specs.List.{flat_map}
use Rattle.lp_term.specs.declared.node.TypeId.{TypeId}
use Rattle.lp_term.specs.Nodes.{Nodes, type_tree}
use Rattle.lp_object.specs.declared.width.Width.{Width}
use Rattle.lp_object.specs.Spelling.{spelled_type}

abbrev pub spelled_at : Width → Nodes → TypeId → List ℕ
spelled_at w b t = spelled_type w (type_tree b t.0)

-- the types of a stack, the last one first
abbrev pub waiting : Width → Nodes → List TypeId → List ℕ
waiting w b ts = flat_map (spelled_at w b) (reverse ts)
