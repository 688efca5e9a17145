use Rattle.std.proofs.Common.{arith}
use Rattle.lp_term.specs.Nodes.{tree}
use Rattle.lp_cert.proofs.Beginnings.{one_on, one_on_later, one_inside}
use Rattle.lp_cert.proofs.Later.{seen_later}
use Rattle.lp_cert.proofs.Endings.{head_not_on_one, not_on_one}
use Rattle.lp_cert.proofs.shape.one_of.Goals as goal

pub returns-else-arguments-ne1-clause-now : goal.returns-else-arguments-ne1-clause-now
returns-else-arguments-ne1-clause-now c =
    one_on c.args.bank.now (tree c.args.bank.now c.in-App.head.0) (tree c.args.bank.now c.args.term.0) c.in-App.arguments.now c.one_applied.result (omega (arith, c.if-arguments-ne1.false)) c.in-App.ensures.tree c.one_applied.ensures.now

pub returns-else-arguments-ne1-clause-later : goal.returns-else-arguments-ne1-clause-later
returns-else-arguments-ne1-clause-later c =
    one_on_later c.args.bank.now c.in-App.head.0 c.args.term.0 c.in-App.arguments.now c.one_applied.result (omega (arith, c.if-arguments-ne1.false))
    (λ b e. seen_later c.args.bank.now b c.args.term.0 _ e c.in-App.ensures.node (λ q. absurd (cc)) c.in-App.ensures.within c.in-App.ensures.tree) c.one_applied.ensures.later

pub returns-else-arguments-ne1-clause-inside : goal.returns-else-arguments-ne1-clause-inside
returns-else-arguments-ne1-clause-inside c =
    one_inside c.args.bank.now _ (tree c.args.bank.now c.in-App.head.0) c.in-App.arguments.now c.one_applied.result (omega (arith, c.if-arguments-ne1.false)) c.in-App.ensures.within.1 c.one_applied.ensures.now

pub returns-then-arguments-ne1-clause-none : goal.returns-then-arguments-ne1-clause-none
returns-then-arguments-ne1-clause-none c = λ e. not_on_one c.args.bank.now (tree c.args.bank.now c.in-App.head.0) (tree c.args.bank.now c.args.term.0) c.in-App.arguments.now (λ l. omega (arith, l, c.if-arguments-ne1.true)) c.in-App.ensures.within.2 c.in-App.ensures.tree

pub returns-else-arguments-ne1-clause-none : goal.returns-else-arguments-ne1-clause-none
returns-else-arguments-ne1-clause-none c = λ e. head_not_on_one c.args.bank.now (tree c.args.bank.now c.in-App.head.0) (tree c.args.bank.now c.args.term.0) c.in-App.arguments.now (omega (arith, c.if-arguments-ne1.false)) c.in-App.ensures.tree (c.one_applied.ensures.none e)
