use Rattle.std.proofs.Common.{reverse}
use Rattle.std.proofs.lemmas.Result.{IfOk-weaker}
use Rattle.lp_unify.proofs.TypeComparisons.{top_dropped, top_bound}
use Rattle.lp_unify.proofs.types.have_same_top.Goals as goal

pub returns-in-Drop : goal.returns-in-Drop
returns-in-Drop c = λ m n A B r q. top_dropped c.args.store.now c.args.one c.args.other A B (reverse c.args.todo.now.items) c.in-Drop.ensures r q

pub returns-in-Bind : goal.returns-in-Bind
returns-in-Bind c = λ m n A B r q. top_bound c.args.store.now c.args.one c.args.other c.in-Bind.field-0 c.in-Bind.field-1 A B c.in-Bind.ensures m n r q

pub returns-in-Split : goal.returns-in-Split
returns-in-Split c = IfOk-weaker c.split.result _ _ (λ same h m n A B r q. h m n c.in-Split.ensures.0 c.in-Split.ensures.1 A B r q) c.split.ensures
