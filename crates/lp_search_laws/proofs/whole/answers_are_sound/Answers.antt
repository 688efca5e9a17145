use Rattle.lp_search_laws.proofs.Sound as lemmas
use Rattle.lp_search_laws.proofs.whole.answers_are_sound.Goals as goal

pub returns : goal.returns
returns c = λ d std l F P s x q gs t e n j m steps answers. lemmas.answers_sound d std l F P s x q gs t e n j m steps answers
