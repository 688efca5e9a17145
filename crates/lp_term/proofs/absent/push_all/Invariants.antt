use Rattle.std.proofs.Common.{◌≡◌, ◌++◌, take}
use Rattle.lp_term.specs.Absent.{places}
use Rattle.lp_term.proofs.absent.push_all.Given as goal

abbrev pub invariant-loop-id : goal.invariant-loop-id
invariant-loop-id l = l.left.items ≡ l.fn.left.items ++ places l.fn.depth (take l.id-index l.ids)
