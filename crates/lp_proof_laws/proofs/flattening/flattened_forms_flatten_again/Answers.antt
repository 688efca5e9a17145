use Rattle.lp_proof_laws.proofs.Flattened.Made as lemmas
use Rattle.lp_proof_laws.proofs.flattening.flattened_forms_flatten_again.Goals as goal

pub returns : goal.returns
returns c = λ d n B t. (λ gs e. lemmas.goals_flatten_again d n B t gs e, λ cs e. lemmas.clauses_flatten_again d n B t cs e)
