use Rattle.lp_syntax.proofs.QueryFaults.{one_query}
use Rattle.lp_syntax.proofs.laws.one_query.Goals as goal

pub returns : goal.returns
returns c = one_query
