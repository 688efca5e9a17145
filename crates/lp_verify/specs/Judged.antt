-- What a verdict says.
use Rattle.std.specs.Prelude.{◌≡◌, is_some, ℕ, ◌+◌, ◌<◌, ◌^◌, List, [], ◌∷◌, Some, None, true, Result, Ok, Err}
use Rattle.std.specs.List.{All as Each}
use Rattle.lp_code.specs.declared.instruction.Instr.{Instr}
use Rattle.lp_code.specs.declared.record.Record.{Record}
use Rattle.lp_code.specs.Length.{length_of}
use Rattle.lp_code.specs.Symbolic.{Tables}
use Rattle.lp_code.specs.Denote.{denote, first_fault}
use Rattle.lp_verify.specs.declared.refusal.VerifyRefusal.{VerifyRefusal}
use Rattle.lp_verify.specs.declared.refusal.VerifyRefusal.TheVariants as refusal

-- the bytes of instructions
abbrev pub bytes_of : List Instr → ℕ
bytes_of [] = 0
bytes_of (i ∷ is) = length_of i + bytes_of is

-- the code of each record has less than 2^32 bytes
abbrev pub AreShort : List Record → Type 0
AreShort rs = Each (λ (r : Record). bytes_of r.code.items < 2 ^ 32) rs

-- code is accepted where it denotes clauses; else it denotes nothing, and the first fault is told: its record, the offset of the first instruction that breaks a rule, and the first rule that this breaks;
-- want of memory says nothing
abbrev pub IsTold : {A : Type 0} → Tables → List Record → Result A VerifyRefusal → Type 0
IsTold t rs (Ok v) = (first_fault t rs ≡ None) × (is_some (denote t rs) ≡ true)
IsTold t rs (Err (refusal.Invalid c at r)) = (first_fault t rs ≡ Some (record { record_number = c; at = at; rule = r })) × (denote t rs ≡ None)
IsTold t rs (Err refusal.Memory) = Unit {0}
