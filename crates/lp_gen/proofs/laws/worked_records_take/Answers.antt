use Rattle.std.proofs.Common.{refl}
use Rattle.lp_gen.proofs.Worked.{fact_is_within, query_is_within}
use Rattle.lp_gen.proofs.laws.worked_records_take.Goals as goal

pub returns : goal.returns
returns c = λ K. record { fact = refl; query = refl; fact_within = fact_is_within K; query_within = query_is_within K }
