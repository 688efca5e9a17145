use Rattle.lp_store.proofs.Readings as lemmas
use Rattle.lp_store.proofs.laws.one_reading.Goals as goal

pub returns-clause-of_terms : goal.returns-clause-of_terms
returns-clause-of_terms c = λ s i t u p q. lemmas.one p q

pub returns-clause-of_types : goal.returns-clause-of_types
returns-clause-of_types c = λ s i T U p q. lemmas.one_type p q
