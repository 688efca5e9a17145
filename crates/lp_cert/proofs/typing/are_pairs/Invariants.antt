use Rattle.std.proofs.Common.{length, take}
use Rattle.std.specs.Prelude.{All}
use Rattle.lp_type_unify.specs.Reading.{IsPair}
use Rattle.lp_cert.proofs.typing.are_pairs.Given as goal

abbrev pub invariant-loop-at : goal.invariant-loop-at
invariant-loop-at l = All (IsPair (length l.bank.types)) (take l.at l.pairs)
