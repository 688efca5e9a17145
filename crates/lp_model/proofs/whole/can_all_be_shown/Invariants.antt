use Rattle.std.specs.Prelude.{All}
use Rattle.lp_model.specs.Whole.{CanBeShown}
use Rattle.lp_model.proofs.whole.can_all_be_shown.Given as goal

abbrev pub invariant-loop-id : goal.invariant-loop-id
invariant-loop-id l = All (CanBeShown l.bank) l.yielded
