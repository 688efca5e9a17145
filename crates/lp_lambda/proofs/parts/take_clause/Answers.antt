use Rattle.lp_term.specs.Nodes.{tree}
use Rattle.lp_lambda.specs.inner.Walking.{scope_of}
use Rattle.lp_lambda.proofs.Taking.{clause_put, no_clause_put}
use Rattle.lp_lambda.proofs.parts.take_clause.Goals as goal

pub returns-in_ok-visit_both-in-And-clause-put : goal.returns-in_ok-visit_both-in-And-clause-put
returns-in_ok-visit_both-in-And-clause-put c =
    let b = c.args.bank.now in
    clause_put b b (scope_of c.args.walk.now) (tree b c.args.term.0) _ _ _ c.in-And.ensures.tree (c.in_ok-visit_both-in-And.ensures b c.requires.tasks c.in-And.ensures.within.0 c.in-And.ensures.within.1)

pub returns-in_ok-visit_both-in-Implies-clause-put : goal.returns-in_ok-visit_both-in-Implies-clause-put
returns-in_ok-visit_both-in-Implies-clause-put c =
    let b = c.args.bank.now in
    clause_put b b (scope_of c.args.walk.now) (tree b c.args.term.0) _ _ _ c.in-Implies.ensures.tree (c.in_ok-visit_both-in-Implies.ensures b c.requires.tasks c.in-Implies.ensures.within.0 c.in-Implies.ensures.within.1)

pub returns-in_ok-take_body-in-ForAll-clause-put : goal.returns-in_ok-take_body-in-ForAll-clause-put
returns-in_ok-take_body-in-ForAll-clause-put c =
    let b = c.args.bank.now in
    clause_put b _ (scope_of c.args.walk.now) (tree b c.args.term.0) _ _ _ c.in-ForAll.ensures.tree c.in_ok-take_body-in-ForAll.ensures.put

pub returns-in_ok-visit-in_default-clause-put : goal.returns-in_ok-visit-in_default-clause-put
returns-in_ok-visit-in_default-clause-put c =
    let b = c.args.bank.now in
    no_clause_put b b (scope_of c.args.walk.now) (tree b c.args.term.0) c.connective_of.result _ _ c.connective_of.ensures.tree c.in_default.not-And c.in_default.not-Implies c.in_default.not-ForAll (c.in_ok-visit-in_default.ensures b c.requires.tasks c.requires.term)
