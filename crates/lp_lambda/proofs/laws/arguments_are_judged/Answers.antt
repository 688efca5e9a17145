use Rattle.std.proofs.Common.{refl}
use Rattle.lp_lambda.specs.declared.walk.Position.TheVariants.{Goal}
use Rattle.lp_lambda.specs.Rows as row
use Rattle.lp_lambda.proofs.Running.{is_text, is_no_text}
use Rattle.lp_lambda.proofs.laws.arguments_are_judged.Goals as goal

pub returns : goal.returns
returns c = record {
  expanded = is_text 60 Goal row.expanded refl refl;
  exchanged = is_text 60 Goal row.exchanged refl refl;
  expanded_argument = is_text 60 Goal row.expanded_argument refl refl;
  distinct = is_text 60 Goal row.distinct refl refl;
  repeated = λ k. is_no_text 60 Goal row.repeated refl refl k;
  bound_outside = λ k. is_no_text 60 Goal row.bound_outside refl refl k;
  bound_inside = is_text 60 Goal row.bound_inside refl refl;
  on_a_variable = λ k. is_no_text 60 Goal row.on_a_variable refl refl k;
}
