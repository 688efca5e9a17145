use Rattle.lp_search_laws.proofs.Exhausted as lemmas
use Rattle.lp_search_laws.proofs.whole.search_is_right.Goals as goal

pub returns : goal.returns
returns c = λ d std l F P s x q gs t e n j m steps answers. lemmas.right_by_failing d std l F P s x q gs t e n j m steps answers
