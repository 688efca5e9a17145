use Rattle.lp_impl.specs.Chains.{reach}
use Rattle.lp_impl.proofs.assumptions.next_of_all.Given as goal

abbrev pub decreases-entries : goal.decreases-entries
decreases-entries l = reach l.at
