use Rattle.lp_lemmas.proofs.Results.{passed_up}
use Rattle.lp_query.specs.Faults.{IsOfQuery}
use Rattle.lp_query.proofs.asked.all_shown.Goals as goal

pub returns-in_err-variables-clause-refused : goal.returns-in_err-variables-clause-refused
returns-in_err-variables-clause-refused c = λ text. passed_up c.from_residual.result c.in_err-variables.field-0.0 (IsOfQuery text) c.from_residual.ensures.1 (c.in_err-variables.ensures.refused text)
