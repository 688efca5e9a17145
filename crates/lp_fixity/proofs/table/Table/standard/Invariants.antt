use Rattle.std.proofs.Common.{◌≡◌, ◌≤◌, ℕ, List, None, drop}
use Rattle.lp_standard.specs.Constants.{language}
use Rattle.lp_fixity.specs.Table.{entry_of, operators, with_entries}
use Rattle.lp_fixity.proofs.table.Table.standard.Given as goal

abbrev pub invariant-constants : goal.invariant-constants
invariant-constants l = (l.left ≤ 25) × ((name : List ℕ) → entry_of l.table name ≡ with_entries (operators (drop l.left language)) (λ _. None) name)

abbrev pub decreases-constants : goal.decreases-constants
decreases-constants l = l.left
