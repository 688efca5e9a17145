-- The bytes of an instruction in an object.
use Rattle.std.specs.Prelude.{ℕ, ◌+◌, ◌*◌, ◌<◌, ◌^◌, List, length}
use Rattle.std.specs.List.{All as Each}
use Rattle.lp_code.specs.declared.instruction.Instr.{Instr}
use Rattle.lp_code.specs.declared.record.Record.{Record}
use Rattle.lp_code.specs.declared.instruction.Instr.TheVariants.{TyCon, TyArr, TyNew, New, PutConst, PutInt, PutStr, PutIndex, PutAbs, PutApp, GetType, GetVar, Get, GetConst, GetInt, GetStr, Neck, Call, CallTerm, Equal, Is, Less, Greater, AtMost, AtLeast, Cut, Sigma, All, EndAll, Assume, EndAssume, Either, Jump, Proceed, Not, EndNot}

-- one byte for the number of the instruction, two for a register, a constant, a kind or an index, one for the number of an argument, eight for an
-- integer, four for a record or a count of bytes; a list has a count of one byte, of records and captured registers two; a text has a length of two bytes
abbrev pub length_of : Instr → ℕ
length_of (TyCon d k ts) = 6 + 2 * length ts.items
length_of (TyArr d a b) = 7
length_of (TyNew d) = 3
length_of (New d t) = 5
length_of (PutConst d c ts) = 6 + 2 * length ts.items
length_of (PutInt d z) = 11
length_of (PutStr d s) = 5 + length s.items
length_of (PutIndex d i t) = 7
length_of (PutAbs d s t) = 7
length_of (PutApp d s rs) = 6 + 2 * length rs.items
length_of (GetType j t) = 4
length_of (GetVar i d) = 4
length_of (Get i s) = 4
length_of (GetConst i c ts) = 5 + 2 * length ts.items
length_of (GetInt i z) = 10
length_of (GetStr i s) = 4 + length s.items
length_of Neck = 1
length_of (Call c ts rs) = 5 + 2 * length ts.items + 2 * length rs.items
length_of (CallTerm s) = 3
length_of (Equal t l r) = 7
length_of (Is t l r) = 7
length_of (Less l r) = 5
length_of (Greater l r) = 5
length_of (AtMost l r) = 5
length_of (AtLeast l r) = 5
length_of Cut = 1
length_of (Sigma d t) = 5
length_of (All d t) = 5
length_of EndAll = 1
length_of (Assume ns ts rs) = 7 + 2 * length ts.items + 2 * length rs.items + 4 * length ns.items
length_of EndAssume = 1
length_of (Either n) = 5
length_of (Jump n) = 5
length_of Proceed = 1
length_of Not = 1
length_of EndNot = 1

abbrev pub FitsByte : {A : Type 0} → List A → Type 0
FitsByte xs = length xs < 2 ^ 8

abbrev pub FitsTwo : {A : Type 0} → List A → Type 0
FitsTwo xs = length xs < 2 ^ 16

-- texts and lists fit their counts
abbrev pub Fits : Instr → Type 0
Fits (TyCon d k ts) = FitsByte ts.items
Fits (PutConst d c ts) = FitsByte ts.items
Fits (PutStr d s) = FitsTwo s.items
Fits (PutApp d s rs) = FitsByte rs.items
Fits (GetConst i c ts) = FitsByte ts.items
Fits (GetStr i s) = FitsTwo s.items
Fits (Call c ts rs) = FitsByte ts.items × FitsByte rs.items
Fits (Assume ns ts rs) = FitsTwo ns.items × FitsTwo ts.items × FitsTwo rs.items
Fits i = Unit {0}

-- those of all instructions do
abbrev pub AllFit : List Record → Type 0
AllFit rs = Each (λ (r : Record). Each Fits r.code.items) rs
