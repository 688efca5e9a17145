use Rattle.std.proofs.Common.{◌≡◌, ◌≤◌, ◌++◌, List, length, drop}
use Rattle.lp_impl.specs.declared.assumptions.Entry.{Entry}
use Rattle.lp_impl.specs.Chains.{Said, AreSaid, clauses_said}
use Rattle.lp_impl.proofs.assumptions.put_all.Given as goal

abbrev pub invariant-clauses : goal.invariant-clauses
invariant-clauses l = record {
  within : l.left ≤ length l.clauses;
  kept : (more : List Entry) × (l.entries.items ≡ l.fn.entries.items ++ more);
  said : (ss : List Said) → AreSaid l.fn.entries.items l.fn.behind ss → AreSaid l.entries.items l.newest (clauses_said l.frame (drop l.left l.clauses) ++ ss);
}

abbrev pub decreases-clauses : goal.decreases-clauses
decreases-clauses l = l.left
