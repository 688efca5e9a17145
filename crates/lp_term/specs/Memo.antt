-- What has been made by a map: each number that is kept is that of what the term or type becomes.
use Rattle.std.specs.Prelude.{◌≡◌, ℕ, ◌<◌, length, Some, nat_eq}
use Rattle.std.specs.HashMap.{get}
use Rattle.lp_term.specs.Nodes.{Nodes, tree, type_tree}
use Rattle.lp_term.specs.Mapped.{Map, mapped, mapped_type}
use Rattle.lp_term.specs.declared.changed.Changed.{Changed}

pub record AreMade (m : Map) (read built : Nodes) (c : Changed) : Type 0 where
  pub terms : (i j : ℕ) → get nat_eq c.terms i ≡ Some j → (j < length built.terms) × (tree built j ≡ mapped m (tree read i))
  pub types : (i j : ℕ) → get nat_eq c.types i ≡ Some j → (j < length built.types) × (type_tree built j ≡ mapped_type m (type_tree read i))
