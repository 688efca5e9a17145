use Rattle.std.proofs.Common.{◌∙◌, ap, sym, option_map}
use Rattle.lp_standard.specs.Schemes.{shape_scheme}
use Rattle.lp_infer.specs.Postfix.{scheme_or}
use Rattle.lp_infer.proofs.standard.standard_variables.Goals as goal

pub returns-in-Some : goal.returns-in-Some
returns-in-Some c = c.type_vars.ensures ∙ ap (λ o. (scheme_or o).count) (ap (option_map shape_scheme) (sym c.in-Some.is) ∙ c.shape_of.ensures)

pub returns-in-None : goal.returns-in-None
returns-in-None c = ap (λ o. (scheme_or o).count) (ap (option_map shape_scheme) (sym c.in-None.is) ∙ c.shape_of.ensures)
