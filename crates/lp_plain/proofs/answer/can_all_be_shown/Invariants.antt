use Rattle.std.specs.Prelude.{All, take}
use Rattle.lp_model.specs.Whole.{CanBeShown}
use Rattle.lp_plain.proofs.answer.can_all_be_shown.Given as goal

abbrev pub invariant-each : goal.invariant-each
invariant-each l = All (CanBeShown l.bank) (take l.at l.ids.items)
