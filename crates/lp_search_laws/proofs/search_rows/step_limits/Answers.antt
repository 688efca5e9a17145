use Rattle.lp_search_laws.proofs.search_rows.step_limits.Goals as goal
use Rattle.std.proofs.Common.{refl}

pub returns-clause-loops : goal.returns-clause-loops
returns-clause-loops c = refl

pub returns-clause-ten_steps : goal.returns-clause-ten_steps
returns-clause-ten_steps c = refl

pub returns-clause-ten_steps_end : goal.returns-clause-ten_steps_end
returns-clause-ten_steps_end c = refl

pub returns-clause-nine_steps : goal.returns-clause-nine_steps
returns-clause-nine_steps c = refl
