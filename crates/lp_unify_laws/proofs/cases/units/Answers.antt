use Rattle.lp_unify_laws.proofs.CaseRows as rows
use Rattle.lp_unify_laws.proofs.cases.units.Goals as goal

pub returns-clause-units_of_a_value : goal.returns-clause-units_of_a_value
returns-clause-units_of_a_value c = (rows.units_of_a_value_suffice, rows.units_of_a_value_are_all)

pub returns-clause-units_of_arguments : goal.returns-clause-units_of_arguments
returns-clause-units_of_arguments c = (rows.units_of_arguments_suffice, rows.units_of_arguments_are_all)

pub returns-clause-units_of_nodes : goal.returns-clause-units_of_nodes
returns-clause-units_of_nodes c = (rows.units_of_nodes_suffice, rows.units_of_nodes_are_all)

pub returns-clause-units_of_types : goal.returns-clause-units_of_types
returns-clause-units_of_types c = (rows.units_of_types_suffice, rows.units_of_types_are_all)

pub returns-clause-units_of_a_comparison : goal.returns-clause-units_of_a_comparison
returns-clause-units_of_a_comparison c = (rows.units_of_a_comparison_suffice, rows.units_of_a_comparison_are_all)
