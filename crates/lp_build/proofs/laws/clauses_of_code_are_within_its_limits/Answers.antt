use Rattle.lp_build.proofs.Nested.{flattens_within}
use Rattle.lp_build.proofs.laws.clauses_of_code_are_within_its_limits.Goals as goal

pub returns : goal.returns
returns c = flattens_within
