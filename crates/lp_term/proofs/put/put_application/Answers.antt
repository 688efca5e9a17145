use Rattle.std.proofs.Common.{◌∙◌, ap}
use Rattle.lp_calculus.specs.Term.{apply}
use Rattle.lp_term.specs.Nodes.{tree}
use Rattle.lp_term.proofs.Walks.{map_map}
use Rattle.lp_term.proofs.put.put_application.Goals as goal

pub returns-clause-tree : goal.returns-clause-tree
returns-clause-tree c = c.in_ok-id-3.ensures.tree ∙ ap (apply (tree c.args.bank.now c.args.head.0)) (map_map (tree c.args.bank.now) (λ t. t.0) c.args.args.now)
