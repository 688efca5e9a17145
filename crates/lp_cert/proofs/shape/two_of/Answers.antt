use Rattle.std.proofs.Common.{arith}
use Rattle.lp_term.specs.Nodes.{tree}
use Rattle.lp_cert.proofs.Beginnings.{two_on, two_with_on, two_on_later, two_with_on_later}
use Rattle.lp_cert.proofs.Later.{seen_later}
use Rattle.lp_cert.proofs.Endings.{head_not_on_two, head_not_with_two, not_on_two, two_inside, with_inside}
use Rattle.lp_cert.proofs.shape.two_of.Goals as goal

pub returns-then-arguments-eq1-clause-now : goal.returns-then-arguments-eq1-clause-now
returns-then-arguments-eq1-clause-now c =
    two_with_on c.args.bank.now (tree c.args.bank.now c.in-App.head.0) (tree c.args.bank.now c.args.term.0) c.in-App.arguments.now c.two_with.result (omega (arith, c.if-arguments-eq1.true)) c.in-App.ensures.tree c.two_with.ensures.now

pub returns-then-arguments-eq1-clause-later : goal.returns-then-arguments-eq1-clause-later
returns-then-arguments-eq1-clause-later c =
    two_with_on_later c.args.bank.now c.in-App.head.0 c.args.term.0 c.in-App.arguments.now c.two_with.result (omega (arith, c.if-arguments-eq1.true))
    (λ b e. seen_later c.args.bank.now b c.args.term.0 _ e c.in-App.ensures.node (λ q. absurd (cc)) c.in-App.ensures.within c.in-App.ensures.tree) c.two_with.ensures.later

pub returns-else-arguments-ne2-clause-now : goal.returns-else-arguments-ne2-clause-now
returns-else-arguments-ne2-clause-now c =
    two_on c.args.bank.now (tree c.args.bank.now c.in-App.head.0) (tree c.args.bank.now c.args.term.0) c.in-App.arguments.now c.two_applied.result (omega (arith, c.if-arguments-ne2.false)) c.in-App.ensures.tree c.two_applied.ensures.now

pub returns-else-arguments-ne2-clause-later : goal.returns-else-arguments-ne2-clause-later
returns-else-arguments-ne2-clause-later c =
    two_on_later c.args.bank.now c.in-App.head.0 c.args.term.0 c.in-App.arguments.now c.two_applied.result (omega (arith, c.if-arguments-ne2.false))
    (λ b e. seen_later c.args.bank.now b c.args.term.0 _ e c.in-App.ensures.node (λ q. absurd (cc)) c.in-App.ensures.within c.in-App.ensures.tree) c.two_applied.ensures.later

pub returns-then-arguments-eq1-clause-inside : goal.returns-then-arguments-eq1-clause-inside
returns-then-arguments-eq1-clause-inside c = with_inside _ c.in-App.arguments.now c.two_with.result (omega (arith, c.if-arguments-eq1.true)) c.in-App.ensures.within.1 c.two_with.ensures.inside

pub returns-then-arguments-eq1-clause-none : goal.returns-then-arguments-eq1-clause-none
returns-then-arguments-eq1-clause-none c = λ e. head_not_with_two c.args.bank.now (tree c.args.bank.now c.in-App.head.0) (tree c.args.bank.now c.args.term.0) c.in-App.arguments.now (omega (arith, c.if-arguments-eq1.true)) c.in-App.ensures.tree (c.two_with.ensures.none e)

pub returns-then-arguments-ne2-clause-none : goal.returns-then-arguments-ne2-clause-none
returns-then-arguments-ne2-clause-none c = λ e. not_on_two c.args.bank.now (tree c.args.bank.now c.in-App.head.0) (tree c.args.bank.now c.args.term.0)
    c.in-App.arguments.now (λ l. omega (arith, l, c.if-arguments-eq1.false)) (λ l. omega (arith, l, c.if-arguments-ne2.true))
    c.in-App.ensures.within.2 c.in-App.ensures.tree

pub returns-else-arguments-ne2-clause-inside : goal.returns-else-arguments-ne2-clause-inside
returns-else-arguments-ne2-clause-inside c = two_inside c.args.bank.now _ (tree c.args.bank.now c.in-App.head.0) c.in-App.arguments.now c.two_applied.result (omega (arith, c.if-arguments-ne2.false)) c.in-App.ensures.within.1 c.two_applied.ensures.now

pub returns-else-arguments-ne2-clause-none : goal.returns-else-arguments-ne2-clause-none
returns-else-arguments-ne2-clause-none c = λ e. head_not_on_two c.args.bank.now (tree c.args.bank.now c.in-App.head.0) (tree c.args.bank.now c.args.term.0) c.in-App.arguments.now (omega (arith, c.if-arguments-ne2.false)) c.in-App.ensures.tree (c.two_applied.ensures.none e)
