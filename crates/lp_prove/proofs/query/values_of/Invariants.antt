use Rattle.std.proofs.Common.{◌≡◌, length}
use Rattle.lp_prove.proofs.query.values_of.Given as goal

abbrev pub invariant-variables : goal.invariant-variables
invariant-variables l = length l.values.items ≡ l.place
