use Rattle.lp_proof_laws.proofs.Flattened.ReadsBack as lemmas
use Rattle.lp_proof_laws.proofs.flattening.sentences_read_back.Goals as goal

pub returns : goal.returns
returns c = λ d std n D cs e s E P R G. lemmas.sentence_reads_back d std n D cs e s E P R G
