use Rattle.std.proofs.Common.{take, ◌<◌}
use Rattle.std.specs.Prelude.{All}
use Rattle.lp_sig.proofs.expand.end_of.Given as goal

abbrev pub invariant-loop-at : goal.invariant-loop-at
invariant-loop-at l = All (λ n. n < l.end) (take l.at l.numbers)
