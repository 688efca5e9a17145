use Rattle.std.proofs.Common.{◌≡◌, List}
use Rattle.lp_impl.specs.Chains.{Said, AreSaid, without_newest, reach}
use Rattle.lp_impl.proofs.assumptions.behind_newest.Given as goal

abbrev pub invariant-entries : goal.invariant-entries
invariant-entries l = (ss : List Said) → AreSaid l.entries.items l.fn.newest ss → (rest : List Said) × AreSaid l.entries.items l.at rest × (without_newest ss ≡ without_newest rest)

abbrev pub decreases-entries : goal.decreases-entries
decreases-entries l = reach l.at
