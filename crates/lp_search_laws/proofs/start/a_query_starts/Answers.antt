use Rattle.lp_proof_laws.proofs.Uniform.Settings.{without_leaves}
use Rattle.lp_search_laws.proofs.Queries as lemmas
use Rattle.lp_search_laws.proofs.start.a_query_starts.Goals as goal

pub returns : goal.returns
returns c = λ d std n q gs t e P i. lemmas.query_starts d (without_leaves d std) n q gs t e P i
