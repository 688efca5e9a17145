use Rattle.std.proofs.Common.{◌∙◌, ap}
use Rattle.lp_calculus.specs.Term.{atom, constant}
use Rattle.lp_term.specs.Nodes.{type_tree}
use Rattle.lp_term.proofs.Walks.{map_map}
use Rattle.lp_term.proofs.Within.{type_trees_in_place}
use Rattle.lp_term.proofs.put.put_constant.Goals as goal

pub returns-then-not-are_types-clause-tree : goal.returns-then-not-are_types-clause-tree
returns-then-not-are_types-clause-tree c =
    c.in_ok-id.ensures.tree ∙
    ap (λ ts. atom (constant c.args.number ts)) (type_trees_in_place c.args.bank.now c.types_inside.new.bank c.args.types.now c.in_ok-all.all.items c.as_slice.result.now c.in_ok-all.ensures.made c.as_slice.ensures.value)

pub returns-clause-tree : goal.returns-clause-tree
returns-clause-tree c = c.in_ok-id-2.ensures.tree ∙ ap (λ ts. atom (constant c.args.number ts)) (map_map (type_tree c.args.bank.now) (λ t. t.0) c.args.types.now)
