use Rattle.lp_search_laws.proofs.search_rows.goals_known_at_run_time.Goals as goal
use Rattle.std.proofs.Common.{refl}

pub returns-clause-at_run_time : goal.returns-clause-at_run_time
returns-clause-at_run_time c = refl

pub returns-clause-at_run_time_end : goal.returns-clause-at_run_time_end
returns-clause-at_run_time_end c = refl

pub returns-clause-conjunction_at_run_time : goal.returns-clause-conjunction_at_run_time
returns-clause-conjunction_at_run_time c = refl
