use Rattle.lp_term.specs.Nodes.{tree}
use Rattle.lp_term.proofs.Contractions.{is_form, too_large}
use Rattle.lp_term.proofs.form.normal_form.Goals as goal

pub returns-clause-form : goal.returns-clause-form
returns-clause-form c = is_form c.args.contractions (tree c.args.bank.now c.args.term.0) (tree c.contracted.new.bank c.in_ok-beta.beta.0) (tree c.eta_form.new.bank c.in_ok-id.id.0) c.in_ok-beta.ensures.form c.in_ok-id.ensures.form

pub returns-then-has_more_nodes-clause-refused : goal.returns-then-has_more_nodes-clause-refused
returns-then-has_more_nodes-clause-refused c =
    too_large c.args.contractions c.args.nodes (tree c.args.bank.now c.args.term.0) (tree c.contracted.new.bank c.in_ok-beta.beta.0) (tree c.eta_form.new.bank c.in_ok-id.id.0) c.in_ok-beta.ensures.form c.in_ok-id.ensures.form
    (c.has_more_nodes.ensures.more c.if-has_more_nodes.true)
