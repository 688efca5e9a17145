use Rattle.lp_standard.specs.Connectives.{body_of}
use Rattle.lp_term.specs.Nodes.{tree}
use Rattle.lp_lambda.specs.inner.Walking.{scope_of}
use Rattle.std.proofs.Common.{◌∷◌}
use Rattle.lp_lambda.proofs.Puts.{body_put}
use Rattle.lp_lambda.proofs.parts.take_body.Goals as goal

pub returns-clause-put : goal.returns-clause-put
returns-clause-put c =
    let b = c.args.bank.now in
    let w = c.args.walk.now in
    body_put b c.body.new.bank c.in_ok-inner.ensures.kept c.args.position (c.args.binder ∷ scope_of w) c.in_ok-inner.inner (body_of (tree b c.args.on.0)) w c.visit_under.new.self c.requires.tasks c.in_ok-inner.ensures.within c.in_ok-inner.ensures.tree c.in_ok-visit_under.ensures
