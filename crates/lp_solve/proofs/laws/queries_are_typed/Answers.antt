use Rattle.lp_solve.proofs.Texts.Query.{query_typed}
use Rattle.lp_solve.proofs.laws.queries_are_typed.Goals as goal

pub returns : goal.returns
returns c = λ told name built l d t text b query asked. query_typed d t.standard built.signature t.queries text asked.raw.term b query asked.typed
