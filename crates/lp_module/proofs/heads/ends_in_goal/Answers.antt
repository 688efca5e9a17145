use Rattle.std.proofs.Common.{◌∙◌, ap}
use Rattle.lp_model.specs.Flatten.{ends_in_o}
use Rattle.lp_module.proofs.Measuring.{ends_by_kind}
use Rattle.lp_module.proofs.heads.ends_in_goal.Goals as goal

pub results-preserved : goal.results-preserved
results-preserved c = ap ends_in_o c.in-Arrow.ensures.tree ∙ c.results.invariant

pub returns-in-Con : goal.returns-in-Con
returns-in-Con c = ends_by_kind c.in-Con.kind _ ∙ ap ends_in_o c.in-Con.ensures.tree ∙ c.results.invariant

pub returns-in-Var : goal.returns-in-Var
returns-in-Var c = ap ends_in_o c.in-Var.ensures.tree ∙ c.results.invariant

pub returns-in-Param : goal.returns-in-Param
returns-in-Param c = ap ends_in_o c.in-Param.ensures.tree ∙ c.results.invariant
