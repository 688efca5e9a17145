use Rattle.lp_store.proofs.Total as lemmas
use Rattle.lp_store.proofs.laws.some_reading.Goals as goal

pub returns : goal.returns
returns c = λ s k w o i h. lemmas.reading s k o i (w.ending i h) h
