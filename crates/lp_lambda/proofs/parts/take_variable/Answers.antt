use Rattle.lp_term.specs.Nodes.{tree}
use Rattle.std.proofs.Common.{map}
use Rattle.lp_lambda.proofs.Puts.{all_put}
use Rattle.lp_lambda.proofs.Taking.{existential_taken, universal_taken}
use Rattle.lp_lambda.proofs.parts.take_variable.Goals as goal

pub returns-in-Existential : goal.returns-in-Existential
returns-in-Existential c =
    let b = c.args.bank.now in
    existential_taken b c.args.walk.now c.args.index (map (λ t. tree b t.0) c.args.arguments.now) c.binder.result c.are_names.result c.requires.tasks c.binder.ensures c.in-Existential.is c.are_names.ensures

pub returns-in_ok-visit_all-in-Universal : goal.returns-in_ok-visit_all-in-Universal
returns-in_ok-visit_all-in-Universal c =
    let b = c.args.bank.now in
    let w = c.args.walk.now in
    let e = c.in_ok-visit_all-in-Universal.ensures in
    universal_taken b w c.visit_all.new.self (map (λ t. tree b t.0) c.args.arguments.now) (all_put b w c.visit_all.new.self c.args.arguments.now c.requires.tasks e.scope e.work c.requires.arguments) c.args.index c.binder.result c.binder.ensures c.in-Universal.is
