use Rattle.lp_search_laws.proofs.Begins as lemmas
use Rattle.lp_search_laws.proofs.start.typed_sentences.Goals as goal

pub returns : goal.returns
returns c = lemmas.typed_sentence
