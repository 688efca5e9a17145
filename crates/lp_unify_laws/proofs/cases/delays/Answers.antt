use Rattle.lp_unify_laws.proofs.CaseRows as rows
use Rattle.lp_unify_laws.proofs.cases.delays.Goals as goal

pub returns-clause-no_pattern_is_left : goal.returns-clause-no_pattern_is_left
returns-clause-no_pattern_is_left c = rows.no_pattern_is_left

pub returns-clause-flexible_inside : goal.returns-clause-flexible_inside
returns-clause-flexible_inside c = rows.flexible_inside

pub returns-clause-woken : goal.returns-clause-woken
returns-clause-woken c = rows.woken

pub returns-clause-woken_and_refused : goal.returns-clause-woken_and_refused
returns-clause-woken_and_refused c = rows.woken_and_refused

pub returns-clause-a_redex_that_waits : goal.returns-clause-a_redex_that_waits
returns-clause-a_redex_that_waits c = rows.a_redex_that_waits
