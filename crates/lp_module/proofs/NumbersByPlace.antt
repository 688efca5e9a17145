-- The kinds and constants that a module sees have their numbers by their places.
use Rattle.std.proofs.Common.{◌≡◌, ℕ, zero, suc, ◌+◌, ◌<◌, List, [], ◌∷◌, map, length, get_or, ap, ◌∙◌, arith}
use Rattle.lp_sig.specs.Modules.{numbered_names}
use Rattle.lp_sig.specs.Rows.{Row, kind_row, number_row}
use Rattle.lp_sig.specs.Said.{numbered}
use Rattle.lp_sig.specs.declared.entries.KindEntry.{KindEntry}
use Rattle.lp_sig.specs.declared.entries.ConstantEntry.{ConstantEntry}

pub kinds_by_place : (n : ℕ) (es : List KindEntry) (rows : List (Row ℕ)) → map kind_row es ≡ numbered n rows → (k : ℕ) (d : KindEntry) → k < length es → (get_or es k d).number ≡ n + k
kinds_by_place n [] rows f k d h = absurd (omega (arith, h))
kinds_by_place n (x ∷ xs) [] f k d h = absurd (cc)
kinds_by_place n (x ∷ xs) (r ∷ rs) f zero d h =
    let row : kind_row x ≡ (r.0, (n, r.1)) = cc in
    let e = ap (λ z. z.1.0) row in
    let z : x.number ≡ n + 0 = omega (arith, e) in
    z
kinds_by_place n (x ∷ xs) (r ∷ rs) f (suc k) d h =
    let t : map kind_row xs ≡ numbered (suc n) rs = cc in
    let z : suc n + k ≡ n + suc k = omega arith in
    kinds_by_place (suc n) xs rs t k d (omega (arith, h)) ∙ z

pub constants_by_place : (n : ℕ) (es : List ConstantEntry) (ns : List (List ℕ)) → map number_row es ≡ numbered_names n ns → (k : ℕ) (d : ConstantEntry) → k < length es → (get_or es k d).number ≡ n + k
constants_by_place n [] ns f k d h = absurd (omega (arith, h))
constants_by_place n (x ∷ xs) [] f k d h = absurd (cc)
constants_by_place n (x ∷ xs) (w ∷ ws) f zero d h =
    let row : number_row x ≡ (w, n) = cc in
    let e = ap (λ z. z.1) row in
    let z : x.number ≡ n + 0 = omega (arith, e) in
    z
constants_by_place n (x ∷ xs) (w ∷ ws) f (suc k) d h =
    let t : map number_row xs ≡ numbered_names (suc n) ws = cc in
    let z : suc n + k ≡ n + suc k = omega arith in
    constants_by_place (suc n) xs ws t k d (omega (arith, h)) ∙ z
