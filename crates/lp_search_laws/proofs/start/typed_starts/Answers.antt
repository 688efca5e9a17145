use Rattle.lp_search_laws.proofs.Begins as lemmas
use Rattle.lp_search_laws.proofs.start.typed_starts.Goals as goal

pub returns : goal.returns
returns c = λ n m d std q gs steps answers t e. lemmas.start_typed d std m q gs t e n steps answers
