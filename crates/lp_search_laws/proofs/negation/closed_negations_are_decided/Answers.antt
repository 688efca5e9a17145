use Rattle.lp_search_laws.proofs.ClosedNegations as lemmas
use Rattle.lp_search_laws.proofs.negation.closed_negations_are_decided.Goals as goal

pub returns : goal.returns
returns c = λ d std l F P s x G gs t e n j m steps answers.
    let r = lemmas.with_leaves d std l F P s x G gs t e n j in
    (lemmas.answered d P G gs _ n j r m steps answers, lemmas.ended d P G gs _ n j r m steps answers)
