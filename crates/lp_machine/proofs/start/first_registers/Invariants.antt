use Rattle.std.proofs.Common.{◌≡◌, length}
use Rattle.lp_machine.proofs.start.first_registers.Given as goal

abbrev pub invariant-loop-number : goal.invariant-loop-number
invariant-loop-number l = length l.variables.items ≡ l.number
