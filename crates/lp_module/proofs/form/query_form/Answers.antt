use Rattle.std.proofs.Common.{true}
use Rattle.lp_term.specs.Nodes.{tree}
use Rattle.lp_term.proofs.Moves.{passed_up}
use Rattle.lp_module.specs.Refusals.{IsFormFault}
use Rattle.lp_module.specs.Schemes.{any_schemes}
use Rattle.lp_module.proofs.Forming.{any_heads, short_of}
use Rattle.lp_module.proofs.form.query_form.Goals as goal

pub returns-clause-short : goal.returns-clause-short
returns-clause-short c = short_of any_schemes true c.args.query.now.type_vars (tree c.args.bank.now c.args.query.now.formula.0) (c.in_ok-goal_form.ensures.formed any_schemes any_heads)

pub returns-clause-variables : goal.returns-clause-variables
returns-clause-variables c = (c.in_ok-goal_form.ensures.formed any_schemes any_heads).within.type_variables

pub returns-clause-formed : goal.returns-clause-formed
returns-clause-formed c = c.in_ok-goal_form.ensures.formed any_schemes any_heads

pub returns-in_err-goal_form-clause-refused : goal.returns-in_err-goal_form-clause-refused
returns-in_err-goal_form-clause-refused c =
    passed_up c.from_residual.result c.in_err-goal_form.field-0.0 (IsFormFault any_schemes true c.args.query.now.type_vars (tree c.args.bank.now c.args.query.now.formula.0) c.args.first) c.from_residual.ensures.1
    (c.in_err-goal_form.ensures.refused any_schemes any_heads)
