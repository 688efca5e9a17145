use Rattle.lp_search_laws.proofs.Begins as lemmas
use Rattle.lp_search_laws.proofs.start.typed_programs.Goals as goal

pub returns : goal.returns
returns c = lemmas.program_typed
