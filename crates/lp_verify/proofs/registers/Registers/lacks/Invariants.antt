use Rattle.std.proofs.Common.{◌≡◌, drop}
use Rattle.std.specs.List.{list_any}
use Rattle.lp_verify.specs.Held.{is_lacking}
use Rattle.lp_verify.proofs.registers.Registers.lacks.Given as goal

abbrev pub invariant-loop-register : goal.invariant-loop-register
invariant-loop-register g l = list_any (is_lacking l.fn.self) (drop l.register-index l.fn.registers) ≡ list_any (is_lacking l.fn.self) l.fn.registers
