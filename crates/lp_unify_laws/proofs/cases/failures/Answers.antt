use Rattle.lp_unify_laws.proofs.CaseRows as rows
use Rattle.lp_unify_laws.proofs.cases.failures.Goals as goal

pub returns-clause-the_other_side_has_the_variable : goal.returns-clause-the_other_side_has_the_variable
returns-clause-the_other_side_has_the_variable c = rows.the_other_side_has_the_variable

pub returns-clause-two_values : goal.returns-clause-two_values
returns-clause-two_values c = rows.two_values

pub returns-clause-other_numbers_of_arguments : goal.returns-clause-other_numbers_of_arguments
returns-clause-other_numbers_of_arguments c = rows.other_numbers_of_arguments

pub returns-clause-other_types : goal.returns-clause-other_types
returns-clause-other_types c = rows.other_types

pub returns-clause-a_type_for_a_type_variable : goal.returns-clause-a_type_for_a_type_variable
returns-clause-a_type_for_a_type_variable c = rows.a_type_for_a_type_variable
