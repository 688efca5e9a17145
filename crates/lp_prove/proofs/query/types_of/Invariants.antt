use Rattle.std.proofs.Common.{◌≡◌, length}
use Rattle.lp_prove.proofs.query.types_of.Given as goal

abbrev pub invariant-variables : goal.invariant-variables
invariant-variables l = length l.types.items ≡ l.variable
