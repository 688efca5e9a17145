-- Numbers of 64 bits.
use Rattle.std.specs.Prelude.{◌≡◌, ℤ, Option, Some, None, Result, Ok, Err}
use Rattle.lp_model.specs.declared.ending.Fault.{Fault}
use Rattle.lp_model.specs.declared.ending.Fault.TheVariants.{Overflow}

-- the number, where there is one
abbrev pub IsFitting : Option ℤ → Result ℤ Fault → Type 0
IsFitting (Some z) r = r ≡ Ok z
IsFitting None r = r ≡ Err Overflow
