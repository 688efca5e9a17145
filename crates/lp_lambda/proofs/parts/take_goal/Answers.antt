use Rattle.lp_standard.specs.Connectives as connective
use Rattle.lp_term.specs.Nodes.{tree}
use Rattle.lp_lambda.specs.inner.Walking.{scope_of}
use Rattle.lp_lambda.proofs.Puts.{none_put}
use Rattle.lp_lambda.proofs.Taking.{goal_put}
use Rattle.lp_lambda.proofs.parts.take_goal.Goals as goal

pub returns-in-True-clause-put : goal.returns-in-True-clause-put
returns-in-True-clause-put c =
    let b = c.args.bank.now in
    let w = c.args.walk.now in
    goal_put b b (scope_of w) (tree b c.args.term.0) connective.True w w c.in-True.ensures.tree (none_put b w c.requires.tasks)

pub returns-in-Cut-clause-put : goal.returns-in-Cut-clause-put
returns-in-Cut-clause-put c =
    let b = c.args.bank.now in
    let w = c.args.walk.now in
    goal_put b b (scope_of w) (tree b c.args.term.0) connective.Cut w w c.in-Cut.ensures.tree (none_put b w c.requires.tasks)

pub returns-in_ok-visit_both-in-And-clause-put : goal.returns-in_ok-visit_both-in-And-clause-put
returns-in_ok-visit_both-in-And-clause-put c =
    let b = c.args.bank.now in
    goal_put b b (scope_of c.args.walk.now) (tree b c.args.term.0) _ _ _ c.in-And.ensures.tree (c.in_ok-visit_both-in-And.ensures b c.requires.tasks c.in-And.ensures.within.0 c.in-And.ensures.within.1)

pub returns-in_ok-visit_both-in-Or-clause-put : goal.returns-in_ok-visit_both-in-Or-clause-put
returns-in_ok-visit_both-in-Or-clause-put c =
    let b = c.args.bank.now in
    goal_put b b (scope_of c.args.walk.now) (tree b c.args.term.0) _ _ _ c.in-Or.ensures.tree (c.in_ok-visit_both-in-Or.ensures b c.requires.tasks c.in-Or.ensures.within.0 c.in-Or.ensures.within.1)

pub returns-in_ok-visit_both-in-Implies-clause-put : goal.returns-in_ok-visit_both-in-Implies-clause-put
returns-in_ok-visit_both-in-Implies-clause-put c =
    let b = c.args.bank.now in
    goal_put b b (scope_of c.args.walk.now) (tree b c.args.term.0) _ _ _ c.in-Implies.ensures.tree (c.in_ok-visit_both-in-Implies.ensures b c.requires.tasks c.in-Implies.ensures.within.0 c.in-Implies.ensures.within.1)

pub returns-in_ok-take_body-in-ForAll-clause-put : goal.returns-in_ok-take_body-in-ForAll-clause-put
returns-in_ok-take_body-in-ForAll-clause-put c =
    let b = c.args.bank.now in
    goal_put b _ (scope_of c.args.walk.now) (tree b c.args.term.0) _ _ _ c.in-ForAll.ensures.tree c.in_ok-take_body-in-ForAll.ensures.put

pub returns-in_ok-take_body-in-Exists-clause-put : goal.returns-in_ok-take_body-in-Exists-clause-put
returns-in_ok-take_body-in-Exists-clause-put c =
    let b = c.args.bank.now in
    goal_put b _ (scope_of c.args.walk.now) (tree b c.args.term.0) _ _ _ c.in-Exists.ensures.tree c.in_ok-take_body-in-Exists.ensures.put

pub returns-in_ok-visit-in-Not-clause-put : goal.returns-in_ok-visit-in-Not-clause-put
returns-in_ok-visit-in-Not-clause-put c =
    let b = c.args.bank.now in
    goal_put b b (scope_of c.args.walk.now) (tree b c.args.term.0) _ _ _ c.in-Not.ensures.tree (c.in_ok-visit-in-Not.ensures b c.requires.tasks c.in-Not.ensures.within)

pub returns-in_ok-visit-in-Atomic-clause-put : goal.returns-in_ok-visit-in-Atomic-clause-put
returns-in_ok-visit-in-Atomic-clause-put c =
    let b = c.args.bank.now in
    goal_put b b (scope_of c.args.walk.now) (tree b c.args.term.0) _ _ _ c.in-Atomic.ensures.tree (c.in_ok-visit-in-Atomic.ensures b c.requires.tasks c.requires.term)
