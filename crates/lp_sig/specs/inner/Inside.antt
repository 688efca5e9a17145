-- Types that stand in the bank, in place of those of any numbers.
use Rattle.std.specs.Prelude.{◌≡◌, ◌<◌, List, length, map, All}
use Rattle.lp_term.specs.Nodes.{Nodes, type_tree}
use Rattle.lp_term.specs.declared.node.TypeId.{TypeId}

-- types of a bank now are those of other numbers before
pub record AreSame (b now : Nodes) (ids here : List TypeId) : Type 0 where
  pub within : All (λ i. i < length now.types) (map (λ t. t.0) here)
  pub trees : map (type_tree now) (map (λ t. t.0) here) ≡ map (type_tree b) (map (λ t. t.0) ids)
