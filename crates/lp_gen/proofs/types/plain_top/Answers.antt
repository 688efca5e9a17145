use Rattle.std.proofs.Common.{◌∙◌, ap, sym}
use Rattle.lp_term.proofs.Walks.{map_map}
use Rattle.lp_calculus.specs.Types.{con, tys}
use Rattle.lp_term.specs.Nodes.{type_tree}
use Rattle.lp_gen.proofs.types.plain_top.Goals as goal

pub returns-in-Con : goal.returns-in-Con
returns-in-Con c = ap (λ l. con c.in-Con.kind (tys l)) (sym (map_map (type_tree c.args.bank.now) (λ t. t.0) c.in-Con.parts.now)) ∙ c.in-Con.ensures.tree
