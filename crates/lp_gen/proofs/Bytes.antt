-- The bytes of instructions.
use Rattle.std.proofs.Common.{◌<◌, arith}
use Rattle.lp_code.specs.declared.instruction.Instr.{Instr}
use Rattle.lp_code.specs.declared.instruction.Instr.TheVariants as on
use Rattle.lp_code.specs.Length.{length_of}

-- each has at least one
pub some_length : (i : Instr) → 0 < length_of i
some_length (on.TyCon d k ts) = omega arith
some_length (on.TyArr d a b) = omega arith
some_length (on.TyNew d) = omega arith
some_length (on.New d t) = omega arith
some_length (on.PutConst d c ts) = omega arith
some_length (on.PutInt d z) = omega arith
some_length (on.PutStr d s) = omega arith
some_length (on.PutIndex d i t) = omega arith
some_length (on.PutAbs d s t) = omega arith
some_length (on.PutApp d s rs) = omega arith
some_length (on.GetType j t) = omega arith
some_length (on.GetVar i d) = omega arith
some_length (on.Get i s) = omega arith
some_length (on.GetConst i c ts) = omega arith
some_length (on.GetInt i z) = omega arith
some_length (on.GetStr i s) = omega arith
some_length on.Neck = omega arith
some_length (on.Call c ts rs) = omega arith
some_length (on.CallTerm s) = omega arith
some_length (on.Equal t l r) = omega arith
some_length (on.Is t l r) = omega arith
some_length (on.Less l r) = omega arith
some_length (on.Greater l r) = omega arith
some_length (on.AtMost l r) = omega arith
some_length (on.AtLeast l r) = omega arith
some_length on.Cut = omega arith
some_length (on.Sigma d t) = omega arith
some_length (on.All d t) = omega arith
some_length on.EndAll = omega arith
some_length (on.Assume ns ts rs) = omega arith
some_length on.EndAssume = omega arith
some_length (on.Either n) = omega arith
some_length (on.Jump n) = omega arith
some_length on.Proceed = omega arith
some_length on.Not = omega arith
some_length on.EndNot = omega arith
