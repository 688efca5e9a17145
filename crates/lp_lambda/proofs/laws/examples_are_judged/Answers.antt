use Rattle.std.proofs.Common.{refl}
use Rattle.lp_lambda.specs.declared.walk.Position.TheVariants.{Clause, Goal}
use Rattle.lp_lambda.specs.Rows as row
use Rattle.lp_lambda.proofs.Running.{is_text, is_no_text}
use Rattle.lp_lambda.proofs.laws.examples_are_judged.Goals as goal

pub returns : goal.returns
returns c = record {
  applications_typed = is_text 60 Clause row.applications_typed refl refl;
  abstractions_typed = is_text 60 Clause row.abstractions_typed refl refl;
  identity_typed = is_text 60 Goal row.identity_typed refl refl;
  on_a_constant = λ k. is_no_text 60 Goal row.on_a_constant refl refl k;
  abstractions_evaluated = is_text 60 Clause row.abstractions_evaluated refl refl;
  applications_evaluated = λ k. is_no_text 60 Clause row.applications_evaluated refl refl k;
}
