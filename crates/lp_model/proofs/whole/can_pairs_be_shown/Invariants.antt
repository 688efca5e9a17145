use Rattle.std.specs.Prelude.{All}
use Rattle.lp_model.specs.Whole.{CanPairBeShown}
use Rattle.lp_model.proofs.whole.can_pairs_be_shown.Given as goal

abbrev pub invariant-loop-pair : goal.invariant-loop-pair
invariant-loop-pair l = All (CanPairBeShown l.bank) l.yielded
