use Rattle.std.specs.Prelude.{All, take}
use Rattle.lp_model.specs.Whole.{CanPairBeShown}
use Rattle.lp_plain.proofs.answer.can_pairs_be_shown.Given as goal

abbrev pub invariant-each : goal.invariant-each
invariant-each l = All (CanPairBeShown l.bank) (take l.at l.pairs.items)
