use Rattle.std.proofs.Common.{refl}
use Rattle.lp_lambda.specs.declared.walk.Position.TheVariants.{Clause, Goal}
use Rattle.lp_lambda.specs.Rows as row
use Rattle.lp_lambda.proofs.Running.{is_text, is_no_text}
use Rattle.lp_lambda.proofs.laws.quantifiers_are_judged.Goals as goal

pub returns : goal.returns
returns c = record {
  some_constant = is_text 60 Goal row.some_constant refl refl;
  some_variable = λ k. is_no_text 60 Goal row.some_variable refl refl k;
  every_variable = is_text 60 Goal row.every_variable refl refl;
  every_predicate = is_text 60 Goal row.every_predicate refl refl;
  some_inside = λ k. is_no_text 60 Goal row.some_inside refl refl k;
  some_clause = λ k. is_no_text 60 Clause row.some_clause refl refl k;
  not_every = is_text 60 Goal row.not_every refl refl;
  not_some = λ k. is_no_text 60 Goal row.not_some refl refl k;
  assumed_application = λ k. is_no_text 60 Goal row.assumed_application refl refl k;
  assumed_variable = λ k. is_no_text 60 Goal row.assumed_variable refl refl k;
}
