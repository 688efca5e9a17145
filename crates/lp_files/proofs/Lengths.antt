-- The code of each record that is read has less than 2^32 bytes, since its bytes stand behind their count.
use Rattle.std.proofs.Common.{◌≡◌, ◌+◌, ◌*◌, ◌∷◌, [], ◌<◌, ◌≤◌, ◌^◌, ℕ, suc, List, inl, inr, length, map, refl, arith}
use Rattle.std.specs.List.{AllByRecursion, flat_map}
use Rattle.std.proofs.lemmas.List.{length-append}
use Rattle.std.proofs.lemmas.List.Elements.{All-cons, All-nil}
use Rattle.lp_bytes.specs.Numbers.{spelled_two, spelled_four}
use Rattle.lp_code.specs.declared.instruction.Instr.{Instr}
use Rattle.lp_code.specs.declared.instruction.Instr.TheVariants.{TyCon, TyArr, TyNew, New, PutConst, PutInt, PutStr, PutIndex, PutAbs, PutApp, GetType, GetVar, Get, GetConst, GetInt, GetStr, Neck, Call, CallTerm, Equal, Is, Less, Greater, AtMost, AtLeast, Cut, Sigma, All, EndAll, Assume, EndAssume, Either, Jump, Proceed, Not, EndNot}
use Rattle.lp_code.specs.declared.image.Image.{Image}
use Rattle.lp_code.specs.declared.object.Object.{Object}
use Rattle.lp_code.specs.declared.record.Record.{Record}
use Rattle.lp_code.specs.Length.{length_of}
use Rattle.lp_object.specs.Numbers.{spelled_number, spelled_text, spelled_few, spelled_many, spelled_numbered}
use Rattle.lp_object.specs.Plain.{Operand, argument, register, symbol, integer, bytes, text, few, many, numbered, PlainInstr, plain_image, plain_instr, plain_object, plain_record}
use Rattle.lp_object.specs.Spellable.{IsObject, IsRecord, SpellsImage}
use Rattle.lp_object.specs.Spelling.{spelled_instr, spelled_operand}
use Rattle.lp_verify.specs.Judged.{AreShort, bytes_of}

-- numbers of two and of four bytes
twos : (ns : List ℕ) → length (flat_map spelled_two ns) ≡ 2 * length ns
twos [] = omega arith
twos (n ∷ ns) = omega (arith, twos ns)

fours : (ns : List ℕ) → length (flat_map spelled_four ns) ≡ 4 * length ns
fours [] = omega arith
fours (n ∷ ns) = omega (arith, fours ns)

-- the least bytes of an operand in either width
abbrev least : Operand → ℕ
least (argument i) = 1
least (register r) = 2
least (symbol c) = 2
least (integer z) = 8
least (bytes n) = 4
least (text s) = 2 + length s
least (few rs) = 1 + 2 * length rs
least (many rs) = 2 + 2 * length rs
least (numbered ns) = 2 + 4 * length ns

abbrev leasts : List Operand → ℕ
leasts [] = 0
leasts (o ∷ os) = least o + leasts os

-- a constant's or a kind's number has two bytes or more
abbrev HasTwo : (ℕ → List ℕ) → Type 0
HasTwo spell = (c : ℕ) → 2 ≤ length (spell c)

of_operand : (w : _) (o : Operand) → HasTwo (spelled_number w) → least o ≤ length (spelled_operand w o)
unfolding spelled_text spelled_few spelled_many spelled_numbered
of_operand w (argument i) two = omega arith
of_operand w (register r) two = omega arith
of_operand w (symbol c) two = two c
of_operand w (integer z) two = omega arith
of_operand w (bytes n) two = omega arith
of_operand w (text s) two = omega arith
of_operand w (few rs) two = omega (arith, twos rs)
of_operand w (many rs) two = omega (arith, twos rs)
of_operand w (numbered ns) two = omega (arith, fours ns)

of_operands : (w : _) (os : List Operand) → HasTwo (spelled_number w) → leasts os ≤ length (flat_map (spelled_operand w) os)
of_operands w [] two = omega arith
of_operands w (o ∷ os) two = omega (arith, of_operand w o two, of_operands w os two, length-append (spelled_operand w o) (flat_map (spelled_operand w) os))

abbrev operands_of : Instr → List Operand
operands_of i =
    let one : PlainInstr = plain_instr i in
    one.operands

-- the bytes of an instruction are its number and the least of its operands
counted : (i : Instr) → length_of i ≡ suc (leasts (operands_of i))
counted (TyCon d k ts) = omega arith
counted (TyArr d a b) = refl
counted (TyNew d) = refl
counted (New d t) = refl
counted (PutConst d c ts) = omega arith
counted (PutInt d z) = refl
counted (PutStr d s) = omega arith
counted (PutIndex d i t) = refl
counted (PutAbs d s t) = refl
counted (PutApp d s rs) = omega arith
counted (GetType j t) = refl
counted (GetVar i d) = refl
counted (Get i s) = refl
counted (GetConst i c ts) = omega arith
counted (GetInt i z) = refl
counted (GetStr i s) = omega arith
counted Neck = refl
counted (Call c ts rs) = omega arith
counted (CallTerm s) = refl
counted (Equal t l r) = refl
counted (Is t l r) = refl
counted (Less l r) = refl
counted (Greater l r) = refl
counted (AtMost l r) = refl
counted (AtLeast l r) = refl
counted Cut = refl
counted (Sigma d t) = refl
counted (All d t) = refl
counted EndAll = refl
counted (Assume ns ts rs) = omega arith
counted EndAssume = refl
counted (Either n) = refl
counted (Jump n) = refl
counted Proceed = refl
counted Not = refl
counted EndNot = refl

-- no more than those that spell it, and so of the code of a record
of_code : (w : _) (is : List Instr) → HasTwo (spelled_number w) → bytes_of is ≤ length (flat_map (spelled_instr w) (map plain_instr is))
of_code w [] two = omega arith
of_code w (i ∷ is) two =
    let one : PlainInstr = plain_instr i in
    omega (arith, of_code w is two, counted i, of_operands w (operands_of i) two, length-append (spelled_instr w one) (flat_map (spelled_instr w) (map plain_instr is)))

are_short : (w : _) (rs : List Record) → AllByRecursion (IsRecord w) (map plain_record rs) → HasTwo (spelled_number w) → AreShort rs
are_short w [] h two = All-nil (λ (r : Record). bytes_of r.code.items < 2 ^ 32)
are_short w (r ∷ rs) h two = All-cons (λ (r : Record). bytes_of r.code.items < 2 ^ 32) r rs (omega (arith, of_code w r.code.items two, h.0.code_fits.1)) (are_short w rs h.1 two)

pub object_short : (o : Object) → IsObject (plain_object o) → AreShort o.code.records.items
object_short o h = are_short _ o.code.records.items h.records_fit.1 (λ c. omega arith)

-- an image in either version
pub image_short : (i : Image) (all : List ℕ) → SpellsImage (plain_image i) all → AreShort i.code.records.items
image_short i all (inl h) = are_short _ i.code.records.items h.0.records_fit.1 (λ c. omega arith)
image_short i all (inr h) = are_short _ i.code.records.items h.0.records_fit.1 (λ c. omega arith)
