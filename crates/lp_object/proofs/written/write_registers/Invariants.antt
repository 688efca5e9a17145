use Rattle.std.proofs.Common.{◌≡◌, take}
use Rattle.std.specs.List.{flat_map}
use Rattle.lp_bytes.specs.Numbers.{spelled_two}
use Rattle.lp_bytes.specs.Writing.{text_of, more}
use Rattle.lp_object.proofs.written.write_registers.Given as goal

abbrev pub invariant-loop-register : goal.invariant-loop-register
invariant-loop-register l = text_of l.writer ≡ more (text_of l.fn.writer) (flat_map (λ n. spelled_two n) (take l.register-index l.registers))
