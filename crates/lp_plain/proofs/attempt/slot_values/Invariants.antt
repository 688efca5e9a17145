use Rattle.std.proofs.Common.{◌≡◌, ◌+◌, length}
use Rattle.lp_term.specs.Nodes.{Extends}
use Rattle.lp_plain.specs.Slots.{AreIn, AreSlotted}
use Rattle.lp_plain.proofs.attempt.slot_values.Given as goal

abbrev pub invariant-variables : goal.invariant-variables
invariant-variables l = record {
  kept : Extends l.fn.bank l.bank;
  count : length l.values.items ≡ l.number;
  id : l.id ≡ l.fn.next + l.number;
  values : AreIn l.fn.bank l.args → AreSlotted l.fn.bank l.bank l.args l.fn.next l.level l.slots.items l.values.items;
}
