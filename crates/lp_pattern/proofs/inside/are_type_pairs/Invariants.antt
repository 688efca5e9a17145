use Rattle.std.proofs.Common.{length}
use Rattle.std.specs.Prelude.{All}
use Rattle.lp_pattern.specs.Inside.{IsTypePairOf}
use Rattle.lp_pattern.proofs.inside.are_type_pairs.Given as goal

abbrev pub invariant-loop-pair : goal.invariant-loop-pair
invariant-loop-pair l = All (IsTypePairOf (length l.bank.types)) l.yielded
