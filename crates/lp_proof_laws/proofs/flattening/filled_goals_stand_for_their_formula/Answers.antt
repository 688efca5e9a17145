use Rattle.lp_proof_laws.proofs.Flattened.Filled as lemmas
use Rattle.lp_proof_laws.proofs.flattening.filled_goals_stand_for_their_formula.Goals as goal

pub returns : goal.returns
returns c = λ d E V k f fine n t. (λ gs e w. lemmas.goals_stand d E V k f fine n t gs e w, λ cs e w. lemmas.clauses_stand d E V k f fine n t cs e w)
