use Rattle.std.proofs.Common.{◌+◌}
use Rattle.std.specs.Prelude.{All}
use Rattle.std.specs.HashMap.{values}
use Rattle.lp_term.specs.Nodes.{Extends}
use Rattle.lp_term.specs.Change.{value, IsKnown}
use Rattle.lp_term.specs.Started.{IsStarted, AwaitsValue, toil, all_toil}
use Rattle.lp_term.proofs.started.carry.Given as goal

abbrev pub invariant-moves : goal.invariant-moves
invariant-moves l = record {
  kept : Extends l.fn.bank l.bank;
  known : All (IsKnown l.given l.bank) (values l.memo);
  top : IsStarted l.given l.bank l.top;
  waits : AwaitsValue l.given l.bank (value l.given l.fn.bank l.fn.place) l.waiting.items (value l.given l.bank l.top.place);
}

abbrev pub decreases-moves : goal.decreases-moves
decreases-moves l = all_toil l.given l.bank l.waiting.items + toil l.given l.bank l.top
