use Rattle.std.proofs.Common.{arith}
use Rattle.std.proofs.lemmas.Result.{IfOk-weaker}
use Rattle.lp_sig.proofs.Inside.{here_inside, here_past}
use Rattle.lp_sig.proofs.store.Types.inside.Goals as goal

pub returns-then-id-count-clause-tree : goal.returns-then-id-count-clause-tree
returns-then-id-count-clause-tree c = λ b x e. here_inside b c.args.self.now.bank c.args.count c.args.id.0 x e c.if-id-count.true

pub returns-clause-tree : goal.returns-clause-tree
returns-clause-tree c = IfOk-weaker c.var.result _ _ (λ here h b x e. here_past b c.var.new.self.bank c.args.count c.args.id.0 here.0 e (let f = c.if-id-count.false in omega (arith, f)) h) c.var.ensures.tree
