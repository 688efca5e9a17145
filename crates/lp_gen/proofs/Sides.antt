-- The bytes of two sides of a goal.
use Rattle.std.proofs.Common.{◌≡◌, ◌∙◌, ◌<◌, ℕ, ◌+◌, ◌-◌, List, [], ◌∷◌, ◌++◌, true, false, ap, refl, arith, inl, inr, ◌⊎◌, ⊎_elim}
use Rattle.std.specs.Prelude.{nat_lt, nat_le, if◌then◌else◌, sum_by}
use Rattle.std.proofs.lemmas.Bool.{eq-eqb, ne_eqb, lt-leb, le-ltb}
use Rattle.std.proofs.lemmas.List.Sums.{sum_by-append}
use Rattle.lp_code.specs.declared.instruction.Instr.{Instr}
use Rattle.lp_code.specs.declared.instruction.Instr.TheVariants as on
use Rattle.lp_code.specs.Length.{length_of}
use Rattle.lp_code.specs.Rules.{ends_with_jump, begins_behind}
use Rattle.lp_gen.proofs.Bytes.{some_length}

pub first_bytes : (i : Instr) (is : List Instr) → sum_by length_of (i ∷ is) ≡ length_of i + sum_by length_of is
first_bytes i is = let one : sum_by length_of (i ∷ []) ≡ 0 + length_of i = refl in let p = sum_by-append length_of (i ∷ []) is in omega (arith, one, p)

-- behind so many bytes an instruction begins
pub begins : (is : List Instr) (j : Instr) (rest : List Instr) (n : ℕ) → n ≡ sum_by length_of is → begins_behind n (is ++ j ∷ rest) ≡ true
begins [] j rest n e =
    let z : sum_by length_of [] ≡ 0 = refl in
    ap (λ t. if t then true else (if nat_lt n (length_of j) then false else begins_behind (n - length_of j) rest)) (eq-eqb n 0 (e ∙ z))
begins (i ∷ is) j rest n e =
    let all = first_bytes i is in
    let some = some_length i in
    ap (λ t. if t then true else (if nat_lt n (length_of i) then false else begins_behind (n - length_of i) (is ++ j ∷ rest))) (ne_eqb n 0 (λ z. absurd (omega (arith, z, e, all, some))))
    ∙ ap (λ t. if t then false else begins_behind (n - length_of i) (is ++ j ∷ rest)) (le-ltb n (length_of i) (omega (arith, e, all)))
    ∙ begins is j rest (n - length_of i) (omega (arith, e, all))

-- an instruction is a JUMP, or its bytes are passed over
jump_or : (i : Instr) (n : ℕ) (is : List Instr) → ((m : ℕ) × (i ≡ on.Jump m)) ⊎ (ends_with_jump n (i ∷ is) ≡ (if nat_le n (length_of i) then false else ends_with_jump (n - length_of i) is))
jump_or (on.Jump m) n is = inl (m, refl)
jump_or (on.TyCon d k ts) n is = inr refl
jump_or (on.TyArr d a b) n is = inr refl
jump_or (on.TyNew d) n is = inr refl
jump_or (on.New d t) n is = inr refl
jump_or (on.PutConst d c ts) n is = inr refl
jump_or (on.PutInt d z) n is = inr refl
jump_or (on.PutStr d s) n is = inr refl
jump_or (on.PutIndex d i t) n is = inr refl
jump_or (on.PutAbs d s t) n is = inr refl
jump_or (on.PutApp d s rs) n is = inr refl
jump_or (on.GetType j t) n is = inr refl
jump_or (on.GetVar i d) n is = inr refl
jump_or (on.Get i s) n is = inr refl
jump_or (on.GetConst i c ts) n is = inr refl
jump_or (on.GetInt i z) n is = inr refl
jump_or (on.GetStr i s) n is = inr refl
jump_or on.Neck n is = inr refl
jump_or (on.Call c ts rs) n is = inr refl
jump_or (on.CallTerm s) n is = inr refl
jump_or (on.Equal t l r) n is = inr refl
jump_or (on.Is t l r) n is = inr refl
jump_or (on.Less l r) n is = inr refl
jump_or (on.Greater l r) n is = inr refl
jump_or (on.AtMost l r) n is = inr refl
jump_or (on.AtLeast l r) n is = inr refl
jump_or on.Cut n is = inr refl
jump_or (on.Sigma d t) n is = inr refl
jump_or (on.All d t) n is = inr refl
jump_or on.EndAll n is = inr refl
jump_or (on.Assume ns ts rs) n is = inr refl
jump_or on.EndAssume n is = inr refl
jump_or (on.Either k) n is = inr refl
jump_or on.Proceed n is = inr refl
jump_or on.Not n is = inr refl
jump_or on.EndNot n is = inr refl

-- so many bytes end with a JUMP
pub ends : (is : List Instr) (m : ℕ) (rest : List Instr) (n : ℕ) → n ≡ sum_by length_of is + 5 → ends_with_jump n (is ++ on.Jump m ∷ rest) ≡ true
ends [] m rest n e =
    let z : sum_by length_of [] ≡ 0 = refl in
    ap (λ t. if t then true else (if nat_lt n 5 then false else ends_with_jump (n - 5) rest)) (eq-eqb n 5 (omega (arith, e, z)))
ends (i ∷ is) m rest n e =
    let all = first_bytes i is in
    let some = some_length i in
    let left : n - length_of i ≡ sum_by length_of is + 5 = omega (arith, e, all) in
    let low : length_of i < n = omega (arith, e, all) in
    ⊎_elim (λ q.
    let five : length_of i ≡ 5 = ap length_of q.1 in
    ap (λ j. ends_with_jump n (j ∷ (is ++ on.Jump m ∷ rest))) q.1
    ∙ ap (λ t. if t then true else (if nat_lt n 5 then false else ends_with_jump (n - 5) (is ++ on.Jump m ∷ rest))) (ne_eqb n 5 (λ z. absurd (omega (arith, z, low, five))))
    ∙ ap (λ t. if t then false else ends_with_jump (n - 5) (is ++ on.Jump m ∷ rest)) (le-ltb n 5 (omega (arith, low, five)))
    ∙ ends is m rest (n - 5) (omega (arith, left, five)))
    (λ q. q ∙ ap (λ t. if t then false else ends_with_jump (n - length_of i) (is ++ on.Jump m ∷ rest)) (lt-leb n (length_of i) low) ∙ ends is m rest (n - length_of i) left)
    (jump_or i n (is ++ on.Jump m ∷ rest))
