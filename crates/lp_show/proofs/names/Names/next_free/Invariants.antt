use Rattle.std.proofs.Common.{◌≡◌, length}
use Rattle.lp_model.specs.Shown.{next_free}
use Rattle.lp_show.specs.Named.{all}
use Rattle.lp_show.proofs.names.Names.next_free.Given as goal

abbrev pub invariant-numbers : goal.invariant-numbers
invariant-numbers l = next_free l.left (all l.self) l.number ≡ next_free (length (all l.self)) (all l.self) l.fn.from

abbrev pub decreases-numbers : goal.decreases-numbers
decreases-numbers l = l.left
