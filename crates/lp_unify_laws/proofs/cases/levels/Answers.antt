use Rattle.lp_unify_laws.proofs.CaseRows as rows
use Rattle.lp_unify_laws.proofs.cases.levels.Goals as goal

pub returns-clause-too_young_an_eigenconstant : goal.returns-clause-too_young_an_eigenconstant
returns-clause-too_young_an_eigenconstant c = rows.too_young_an_eigenconstant

pub returns-clause-pruned : goal.returns-clause-pruned
returns-clause-pruned c = rows.pruned

pub returns-clause-lowered : goal.returns-clause-lowered
returns-clause-lowered c = rows.lowered

pub returns-clause-lowered_on_arguments : goal.returns-clause-lowered_on_arguments
returns-clause-lowered_on_arguments c = rows.lowered_on_arguments
