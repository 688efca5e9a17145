use Rattle.lp_search_laws.proofs.search_rows.calculations.Goals as goal
use Rattle.std.proofs.Common.{refl}

pub returns-clause-overflow : goal.returns-clause-overflow
returns-clause-overflow c = refl

pub returns-clause-zero_divisor : goal.returns-clause-zero_divisor
returns-clause-zero_divisor c = refl

pub returns-clause-not_closed : goal.returns-clause-not_closed
returns-clause-not_closed c = refl

pub returns-clause-calculated : goal.returns-clause-calculated
returns-clause-calculated c = refl
