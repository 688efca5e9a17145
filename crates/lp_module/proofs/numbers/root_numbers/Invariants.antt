use Rattle.std.proofs.Common.{◌≡◌, ◌+◌, ◌≤◌}
use Rattle.lp_module.specs.Program.{exported_before}
use Rattle.lp_module.specs.inner.Tables.{AreNumbers}
use Rattle.lp_module.proofs.numbers.root_numbers.Given as goal

abbrev pub invariant-loop-at : goal.invariant-loop-at
invariant-loop-at l =
    AreNumbers l.first l.hidden l.from (λ i. l.first + exported_before l.first l.hidden i) l.at l.numbers.items × (l.next ≡ l.first + exported_before l.first l.hidden l.at) × (exported_before l.first l.hidden l.at ≤ l.at)
