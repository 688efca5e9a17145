use Rattle.lp_search_laws.proofs.Moved.Leaves.{failed_widened, widened_failure}
use Rattle.lp_search_laws.proofs.Moved.Proofs.{proof_widened}
use Rattle.lp_search_laws.proofs.leaves.eigenconstants_may_be_added.Goals as goal

pub returns-clause-leaves : goal.returns-clause-leaves
returns-clause-leaves c = λ o d P p A k E l R G f h. (widened_failure A f, failed_widened o d P p A k E l R G f h)

pub returns-clause-proofs : goal.returns-clause-proofs
returns-clause-proofs c = λ o d P p A k E l R G h g w. proof_widened o d P p A k E l R G h g w
