use Rattle.std.proofs.Common.{◌≡◌, List}
use Rattle.lp_impl.specs.Chains.{Said, AreSaid, matching, reach}
use Rattle.lp_impl.proofs.assumptions.next_candidate.Given as goal

abbrev pub invariant-entries : goal.invariant-entries
invariant-entries l = (ss : List Said) → AreSaid l.entries.items l.fn.from ss → (rest : List Said) × AreSaid l.entries.items l.at rest × (matching l.head ss ≡ matching l.head rest)

abbrev pub decreases-entries : goal.decreases-entries
decreases-entries l = reach l.at
