use Rattle.std.proofs.Common.{length}
use Rattle.std.specs.Prelude.{All}
use Rattle.lp_pattern.specs.Growing.{IsPairOf}
use Rattle.lp_pattern.proofs.inside.are_pairs.Given as goal

abbrev pub invariant-loop-pair : goal.invariant-loop-pair
invariant-loop-pair l = All (IsPairOf (length l.bank.terms)) l.yielded
