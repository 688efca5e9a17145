use Rattle.std.proofs.Common.{[], ◌∷◌, ap}
use Rattle.lp_calculus.specs.Types.{con, tys}
use Rattle.lp_term.specs.Nodes.{type_tree}
use Rattle.lp_infer.proofs.Copying.{ok_put}
use Rattle.lp_infer.proofs.standard.put_list.Goals as goal

pub returns-clause-tree : goal.returns-clause-tree
returns-clause-tree c = ok_put c.put_constructor.result c.put_constructor.new.bank _ _ (ap (λ n. con n (tys (type_tree c.args.bank.now c.args.of.0 ∷ []))) c.number.ensures.number) c.put_constructor.ensures.within c.put_constructor.ensures.tree
