use Rattle.lp_sig.proofs.Copies.{pick_within, pick_past}
use Rattle.lp_sig.proofs.Instances.{known_within}
use Rattle.lp_sig.proofs.interned.put_for.Goals as goal

pub returns-then-number-args-clause-tree : goal.returns-then-number-args-clause-tree
returns-then-number-args-clause-tree c = λ b. pick_within b c.args.args.now c.args.number _ _ c.if-number-args.true

pub returns-else-number-args-clause-tree : goal.returns-else-number-args-clause-tree
returns-else-number-args-clause-tree c = λ b. pick_past b c.args.args.now c.args.number _ c.if-number-args.false

pub returns-then-number-args-clause-known : goal.returns-then-number-args-clause-known
returns-then-number-args-clause-known c = λ n h all. known_within n c.args.args.now c.args.number _ c.if-number-args.true all

pub returns-else-number-args-clause-known : goal.returns-else-number-args-clause-known
returns-else-number-args-clause-known c = λ n h all. h
