use Rattle.std.proofs.Common.{◌≡◌, drop}
use Rattle.std.specs.List.{list_any}
use Rattle.std.specs.Prelude.{nat_le}
use Rattle.lp_verify.proofs.rules.are_past.Given as goal

abbrev pub invariant-loop-register : goal.invariant-loop-register
invariant-loop-register l = list_any (nat_le l.fn.count) (drop l.register-index l.fn.registers) ≡ list_any (nat_le l.fn.count) l.fn.registers
