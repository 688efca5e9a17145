use Rattle.lp_proof_laws.proofs.Uniform.Settings.{without_leaves}
use Rattle.lp_search_laws.proofs.Begins as lemmas
use Rattle.lp_search_laws.proofs.start.starts_are_solved.Goals as goal

pub returns : goal.returns
returns c = λ m d std F P s x q gs t e i. (lemmas.solves d (without_leaves d std) m q gs t e F P s x ((λ S n y H f h. h), (λ S n y H f h. h)) i, lemmas.proves_it d (without_leaves d std) m q gs t e F P s x ((λ S n y H f h. h), (λ S n y H f h. h)) i)
