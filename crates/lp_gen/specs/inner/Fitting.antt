-- Texts and lists of an instruction fit their counts, as a test: both, and the strings and records alone.
use Rattle.std.specs.Prelude.{ℕ, ◌+◌, nat_lt, Bool, true, ◌&&◌, length}
use Rattle.lp_code.specs.declared.instruction.Instr.{Instr}
use Rattle.lp_code.specs.declared.instruction.Instr.TheVariants.{TyCon, PutConst, PutStr, PutApp, GetConst, GetStr, Call, Assume}
use Rattle.lp_gen.specs.declared.fault.RecordRefusal.{RecordRefusal}
use Rattle.lp_gen.specs.declared.fault.RecordRefusal.TheVariants as refusal
use Rattle.lp_gen.specs.Registers.{past}

abbrev pub is_fitting : Instr → Bool
is_fitting (TyCon d k ts) = nat_lt (length ts.items) 256
is_fitting (PutConst d c ts) = nat_lt (length ts.items) 256
is_fitting (PutStr d s) = nat_lt (length s.items) 65536
is_fitting (PutApp d s rs) = nat_lt (length rs.items) 256
is_fitting (GetConst i c ts) = nat_lt (length ts.items) 256
is_fitting (GetStr i s) = nat_lt (length s.items) 65536
is_fitting (Call c ts rs) = nat_lt (length ts.items) 256 && nat_lt (length rs.items) 256
is_fitting (Assume ns ts rs) = nat_lt (length ns.items) 65536 && nat_lt (length ts.items) 65536 && nat_lt (length rs.items) 65536
is_fitting i = true

abbrev pub is_short : Instr → Bool
is_short (PutStr d s) = nat_lt (length s.items) 65536
is_short (GetStr i s) = nat_lt (length s.items) 65536
is_short (Assume ns ts rs) = nat_lt (length ns.items) 65536
is_short i = true

-- lists of an instruction that are longer than its counts allow
abbrev pub misfits_of : Instr → ℕ
misfits_of (TyCon d k ts) = past 255 (length ts.items)
misfits_of (PutConst d c ts) = past 255 (length ts.items)
misfits_of (PutApp d s rs) = past 255 (length rs.items)
misfits_of (GetConst i c ts) = past 255 (length ts.items)
misfits_of (Call c ts rs) = past 255 (length ts.items) + past 255 (length rs.items)
misfits_of (Assume ns ts rs) = past 65535 (length ts.items) + past 65535 (length rs.items)
misfits_of i = 0

-- a refusal but that of memory has this cause
abbrev pub IsRefused : (cause : Type 0) → RecordRefusal → Type 0
IsRefused P refusal.Registers = P
IsRefused P refusal.Memory = Unit {0}
