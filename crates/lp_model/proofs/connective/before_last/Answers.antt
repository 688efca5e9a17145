use Rattle.std.proofs.Common.{length, arith, refl}
use Rattle.lp_term.specs.Nodes.{tree}
use Rattle.lp_model.proofs.Connectives.{nth_within, more_before, applied_before}
use Rattle.lp_model.proofs.connective.before_last.Goals as goal

pub returns-then-args-ne1-clause-tree : goal.returns-then-args-ne1-clause-tree
returns-then-args-ne1-clause-tree c =
    let b = c.args.bank.now in
    more_before b (tree b c.args.term.0) (tree b c.in-App.head.0) (tree b c.args.last.0) c.in-App.args.now c.in-App.ensures.older.2 c.in-App.ensures.tree c.if-args-ne1.true

pub returns-then-is_application-clause-tree : goal.returns-then-is_application-clause-tree
returns-then-is_application-clause-tree c =
    let b = c.args.bank.now in
    applied_before b (tree b c.args.term.0) (tree b c.in-App.head.0) (tree b c.args.last.0) c.in-App.args.now c.if-args-ne1.false c.in-App.ensures.tree (c.if-is_application.ensures.application refl)

pub returns-else-is_application-clause-within : goal.returns-else-is_application-clause-within
returns-else-is_application-clause-within c =
    let n = length c.args.bank.now.terms in
    (nth_within n n 0 c.in-App.args.now c.in-App.ensures.within.1 (omega (arith, c.if-args-ne1.false)) (omega arith), c.requires.last)
