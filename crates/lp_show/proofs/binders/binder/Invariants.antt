use Rattle.std.proofs.Common.{◌+◌, ◌-◌, length}
use Rattle.lp_show.specs.Named.{all, AreBinders}
use Rattle.lp_show.proofs.binders.binder.Given as goal

abbrev pub invariant-names : goal.invariant-names
invariant-names l = AreBinders (all l.names) l.binders.items

abbrev pub decreases-names : goal.decreases-names
decreases-names l = l.depth + 1 - length l.binders.items
