use Rattle.lp_search_laws.proofs.FailedSearches as leaves
use Rattle.lp_search_laws.proofs.SameProofs as lemmas
use Rattle.lp_search_laws.proofs.leaves.same_goals_are_provable.Goals as goal

pub returns : goal.returns
returns c = λ o d std P E Q R G H s g. lemmas.same_provable d std o P (leaves.failed_same o d P) E Q R G H s g
