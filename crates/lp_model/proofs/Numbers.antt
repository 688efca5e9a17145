-- The fixed constants are in the order of their numbers.
use Rattle.std.proofs.Common.{◌≡◌, ◌+◌, ℕ, zero, suc, List, [], ◌∷◌, ◌++◌, Option, Some, refl, sym, ap, ◌∙◌, arith}
use Rattle.std.specs.Prelude.{slice_get}
use Rattle.lp_standard.specs.declared.constant.Constant.{Constant}
use Rattle.lp_standard.specs.Constants.{number, numbered, language, reserved}

-- the constants have the numbers from n on
abbrev AreFrom : ℕ → List Constant → Type 0
AreFrom n [] = Unit {0}
AreFrom n (k ∷ ks) = (number k ≡ n) × AreFrom (suc n) ks

in_order : (n : ℕ) (ks : List Constant) (j : ℕ) (k : Constant) → AreFrom n ks → slice_get ks j ≡ Some k → n + j ≡ number k
in_order n [] j k h e = absurd (cc)
in_order n (x ∷ ks) zero k h e =
    let f : x ≡ k = cc in
    let z : n + 0 ≡ n = omega arith in
    z ∙ sym h.0 ∙ ap number f
in_order n (x ∷ ks) (suc j) k h e =
    let z : n + suc j ≡ suc n + j = omega arith in
    z ∙ in_order (suc n) ks j k h.1 e

all_in_order : AreFrom 0 (language ++ reserved)
all_in_order = (refl, (refl, (refl, (refl, (refl, (refl, (refl, (refl, (refl, (refl, (refl, (refl, (refl, (refl, (refl, (refl, (refl, (refl, (refl, (refl, (refl, (refl, (refl, (refl, (refl, (refl, tt))))))))))))))))))))))))))

-- a number is that of its constant
pub number_back : (n : ℕ) (k : Constant) → numbered n ≡ Some k → n ≡ number k
number_back n k e = let z : 0 + n ≡ n = omega arith in sym z ∙ in_order 0 (language ++ reserved) n k all_in_order e
