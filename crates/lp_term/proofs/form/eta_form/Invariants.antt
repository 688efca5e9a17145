use Rattle.std.proofs.Common.{◌+◌}
use Rattle.std.specs.Prelude.{All}
use Rattle.std.specs.HashMap.{values}
use Rattle.lp_term.specs.Nodes.{Extends}
use Rattle.lp_term.specs.Opened.{IsOpened, Awaits, IsForm, work, all_work}
use Rattle.lp_term.proofs.form.eta_form.Given as goal

abbrev pub invariant-moves : goal.invariant-moves
invariant-moves l = record {
  kept : Extends l.fn.bank l.bank;
  forms : All (IsForm l.bank) (values l.forms);
  top : IsOpened l.bank l.top;
  waits : Awaits l.bank l.fn.term l.waiting.items l.top.id;
}

abbrev pub decreases-moves : goal.decreases-moves
decreases-moves l = all_work l.bank l.waiting.items + work l.bank l.top
