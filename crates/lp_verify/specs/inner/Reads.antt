-- What an instruction reads that holds nothing.
use Rattle.std.specs.Prelude.{ℕ, Bool, ◌||◌}
use Rattle.std.specs.List.{list_any}
use Rattle.lp_code.specs.declared.instruction.Instr.{Instr}
use Rattle.lp_code.specs.Operands.{types_read, terms_read}

abbrev pub reads_unset : (types terms : ℕ → Bool) → Instr → Bool
reads_unset f g i = list_any f (types_read i) || list_any g (terms_read i)
