use Rattle.lp_solve.proofs.Texts.Flattening.{query_flat}
use Rattle.lp_solve.proofs.laws.texts_flatten.Goals as goal

pub returns : goal.returns
returns c = λ told name text q. query_flat q
