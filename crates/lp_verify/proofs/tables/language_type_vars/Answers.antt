use Rattle.std.proofs.Common.{◌∙◌, ap, sym}
use Rattle.lp_verify.specs.Scheme.{type_vars_in}
use Rattle.lp_verify.proofs.Language.{standard_entry, no_standard_entry}
use Rattle.lp_verify.proofs.tables.language_type_vars.Goals as goal

pub returns-in-Some : goal.returns-in-Some
returns-in-Some c = c.shape_type_vars.ensures ∙ ap type_vars_in (c.shape.ensures ∙ sym (standard_entry c.args.number c.in-Some.constant c.in-Some.ensures))

pub returns-in-None : goal.returns-in-None
returns-in-None c = sym (ap type_vars_in (no_standard_entry c.args.number c.in-None.ensures))
