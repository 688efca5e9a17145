use Rattle.lp_search_laws.proofs.Programs as lemmas
use Rattle.lp_search_laws.proofs.start.flattened_clauses_are_sentences.Goals as goal

pub returns : goal.returns
returns c = lemmas.clauses_are_sentences
