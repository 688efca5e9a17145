use Rattle.std.proofs.Common.{◌≡◌}
use Rattle.lp_code.specs.Denote.{from_zero}
use Rattle.lp_gen.proofs.record.all_types.Given as goal

abbrev pub invariant-loop-register : goal.invariant-loop-register
invariant-loop-register l = l.types.items ≡ from_zero l.register
