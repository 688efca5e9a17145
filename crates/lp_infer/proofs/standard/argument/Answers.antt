use Rattle.lp_infer.proofs.Copying.{ok_put, type_of_number, no_number}
use Rattle.lp_infer.proofs.standard.argument.Goals as goal

pub returns-in-Some-clause-tree : goal.returns-in-Some-clause-tree
returns-in-Some-clause-tree c = λ k. type_of_number c.args.bank.now c.args.args.now c.args.number c.in-Some.id.now c.in-Some.ensures.lookup.1 c.in-Some.ensures.lookup.3.0 k

pub returns-in-None-clause-tree : goal.returns-in-None-clause-tree
returns-in-None-clause-tree c = λ k. ok_put c.put_kind.result c.put_kind.new.bank _ _ (no_number c.args.bank.now c.args.args.now c.args.number c.in-None.ensures.lookup.3) c.put_kind.ensures.within c.put_kind.ensures.tree
