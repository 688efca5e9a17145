-- How much of two types is left to compare.
use Rattle.std.specs.Prelude.{ℕ, suc, ◌+◌, ◌*◌, List, map, sum_by}
use Rattle.lp_calculus.specs.Types.{Ty, Tys, var, param as type_param, con, arrow, no_types, types, tys}
use Rattle.lp_term.specs.Nodes.{Nodes, type_tree}
use Rattle.lp_link.specs.declared.differ.Pair.{Pair}
use Rattle.lp_link.specs.declared.differ.Pair.TheVariants.{Types, Parts}

abbrev mutual
  pub type_size : Ty → ℕ
  type_size (var i) = 1
  type_size (type_param k) = 1
  type_size (con c ts) = 1 + types_size ts
  type_size (arrow a b) = 1 + (type_size a + type_size b)

  pub types_size : Tys → ℕ
  types_size no_types = 0
  types_size (types t ts) = suc (type_size t + types_size ts)

-- the types of the object count
abbrev pub pair_weighs : Nodes → Pair → ℕ
pair_weighs b (Types t u) = 3 * type_size (type_tree b t.0)
pair_weighs b (Parts ts us) = 1 + 3 * types_size (tys (map (λ t. type_tree b t.0) ts.now))

abbrev pub pair_work : Nodes → List Pair → ℕ
pair_work b ps = sum_by (pair_weighs b) ps
