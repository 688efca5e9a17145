use Rattle.lp_unify_laws.proofs.CaseRows as rows
use Rattle.lp_unify_laws.proofs.cases.patterns.Goals as goal

pub returns-clause-a_function : goal.returns-clause-a_function
returns-clause-a_function c = rows.a_function

pub returns-clause-swapped_arguments : goal.returns-clause-swapped_arguments
returns-clause-swapped_arguments c = rows.swapped_arguments

pub returns-clause-a_value_in_a_value : goal.returns-clause-a_value_in_a_value
returns-clause-a_value_in_a_value c = rows.a_value_in_a_value

pub returns-clause-the_places_that_agree : goal.returns-clause-the_places_that_agree
returns-clause-the_places_that_agree c = rows.the_places_that_agree

pub returns-clause-an_eigenconstant_by_eta : goal.returns-clause-an_eigenconstant_by_eta
returns-clause-an_eigenconstant_by_eta c = rows.an_eigenconstant_by_eta

pub returns-clause-below_an_abstraction : goal.returns-clause-below_an_abstraction
returns-clause-below_an_abstraction c = rows.below_an_abstraction
