use Rattle.std.proofs.Common.{◌∙◌, sym}
use Rattle.lp_term.specs.Nodes.{tree}
use Rattle.lp_show.proofs.Formings.{deep_value}
use Rattle.lp_show.proofs.forms.value_form.Goals as goal

pub returns-in-Err : goal.returns-in-Err
returns-in-Err c = record {
  kept = c.form_of.ensures.kept;
  within = tt;
  form = tt;
  refused = deep_value c.args.name.now (tree c.args.bank.now c.args.value.0) c.in-Err.refusal (sym c.is_shown.ensures ∙ c.if-not-is_shown.false) c.in-Err.ensures.refused;
}
