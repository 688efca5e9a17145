use Rattle.std.proofs.Common.{◌≡◌, ℕ, ◌≤◌, List, ◌++◌}
use Rattle.std.specs.Prelude.{◌⊎◌}
use Rattle.lp_calculus.specs.Term.{Term}
use Rattle.lp_model.specs.Flat.{Clause, Clauses, clause_list}
use Rattle.lp_plain.specs.Assuming.{AssumesMore, HasAssumed, IsTreeOf, clauses_in, lists_of}
use Rattle.lp_plain.specs.Entries.{HasValues}
use Rattle.lp_plain.specs.Scopes.{blocks_of}
use Rattle.lp_plain.specs.Tables.{AreRules, Never, shown}
use Rattle.lp_plain.specs.Within.{StandsIn}
use Rattle.lp_plain.specs.WrittenSearch.{WritesRules}
use Rattle.lp_plain.proofs.assume.assume.Given as goal

abbrev pub invariant-numbers : goal.invariant-numbers
invariant-numbers l = record {
  within : l.left ≤ l.rules.to;
  begun : (l.rules.from ≤ l.left) ⊎ (l.left ≡ l.rules.to);
  counts : l.machine.counts ≡ l.fn.machine.counts;
  more : AssumesMore l.fn.machine l.machine;
  tree : IsTreeOf l.fn.machine l.machine l.left l.rules.to l.place.assumed l.tree;
  assumed : (cs : Clauses) (before : List Clause) (σ : ℕ → Term) → StandsIn l.fn.machine → HasAssumed (lists_of l.fn.machine) l.place.assumed before →
      AreRules l.fn.machine.bank Never (shown l.fn.machine.table) l.left l.rules.to cs →
      HasValues l.fn.machine.bank (blocks_of l.fn.machine.scopes) l.place.values.scope σ → HasAssumed (lists_of l.machine) l.tree (clause_list (clauses_in σ l.place.values.types cs) ++ before);
  written : WritesRules l.fn.machine l.machine l.place l.rules.from l.rules.to;
}

abbrev pub decreases-numbers : goal.decreases-numbers
decreases-numbers l = l.left
