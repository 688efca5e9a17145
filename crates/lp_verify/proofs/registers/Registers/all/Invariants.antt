use Rattle.std.proofs.Common.{◌≡◌, ◌++◌, drop}
use Rattle.std.specs.Prelude.{filter_map}
use Rattle.lp_verify.specs.Held.{value_in}
use Rattle.lp_verify.proofs.registers.Registers.all.Given as goal

abbrev pub invariant-loop-register : goal.invariant-loop-register
invariant-loop-register g l = l.values.items ++ filter_map (value_in l.fn.self) (drop l.register-index l.fn.registers) ≡ filter_map (value_in l.fn.self) l.fn.registers
