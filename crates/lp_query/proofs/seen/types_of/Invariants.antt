use Rattle.std.proofs.Common.{◌≡◌, take}
use Rattle.lp_query.proofs.seen.types_of.Given as goal

abbrev pub invariant-loop-number : goal.invariant-loop-number
invariant-loop-number l = l.copy.types ≡ take l.number l.bank.types
