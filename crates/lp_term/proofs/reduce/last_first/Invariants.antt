use Rattle.std.proofs.Common.{◌≡◌, ◌++◌, reverse, length}
use Rattle.lp_term.proofs.reduce.last_first.Given as goal

abbrev pub invariant-ids : goal.invariant-ids
invariant-ids l = l.fn.args.items ≡ l.args.items ++ reverse l.newest.items

abbrev pub decreases-ids : goal.decreases-ids
decreases-ids l = length l.args.items
