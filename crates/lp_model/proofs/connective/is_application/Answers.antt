use Rattle.lp_term.specs.Nodes.{tree}
use Rattle.lp_model.proofs.Connectives.{is_applied}
use Rattle.lp_model.proofs.connective.is_application.Goals as goal

pub returns-in-App-clause-application : goal.returns-in-App-clause-application
returns-in-App-clause-application c = λ e.
    let b = c.args.bank.now in
    is_applied b (tree b c.args.term.0) (tree b c.in-App.field-0.0) c.in-App.field-1.now c.in-App.ensures.older.2 c.in-App.ensures.tree
