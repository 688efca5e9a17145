use Rattle.std.proofs.Common.{◌≡◌, ◌++◌, List}
use Rattle.std.specs.Prelude.{take}
use Rattle.lp_gen.specs.declared.plan.Due.{Due}
use Rattle.lp_gen.specs.inner.Planning.{AreDue}
use Rattle.lp_gen.proofs.plan.push_due.Given as goal

abbrev pub invariant-loop-at : goal.invariant-loop-at
invariant-loop-at l = (more : List Due) × (l.due.items ≡ l.fn.due.items ++ more) × AreDue l.number l.base (take l.at l.clauses) more
