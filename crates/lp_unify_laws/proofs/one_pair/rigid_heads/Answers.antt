use Rattle.lp_unify_laws.proofs.PairLaws as lemmas
use Rattle.lp_unify_laws.proofs.one_pair.rigid_heads.Goals as goal

pub returns : goal.returns
returns c = lemmas.rigid_heads
