use Rattle.std.proofs.Common.{refl, arith, subst}
use Rattle.lp_term.proofs.Trees.{extends_same}
use Rattle.lp_term.specs.Nodes.{tree}
use Rattle.lp_model.specs.Pair.{closed}
use Rattle.lp_pattern.specs.Seen.{IsDeepAt}
use Rattle.lp_plain.proofs.unified.head_normal.Goals as goal

pub returns-then-is_rigid-clause-bank : goal.returns-then-is_rigid-clause-bank
returns-then-is_rigid-clause-bank c = record { bank = extends_same c.args.machine.now.bank; same = refl }

pub returns-then-is_rigid-clause-looks : goal.returns-then-is_rigid-clause-looks
returns-then-is_rigid-clause-looks c = ((λ l. l), c.is_rigid.ensures c.if-is_rigid.true c.args.machine.now.bindings, (λ z r. (0, omega arith, refl)))

pub returns-in-Err-Deep-clause-looks : goal.returns-in-Err-Deep-clause-looks
returns-in-Err-Deep-clause-looks c = λ z r.
    let m = c.args.machine.now in
    (subst (IsDeepAt 1000000 (closed z (tree m.bank c.args.term.0))) c.in-Err-Deep.field-0-is (c.in-Err-Deep.ensures.refused z r)).1
