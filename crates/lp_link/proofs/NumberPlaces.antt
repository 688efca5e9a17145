-- The place of a number in a table.
use Rattle.std.proofs.Common.{◌≡◌, ◌+◌, ◌-◌, ℕ, Bool, true, false, if◌then◌else◌, None, Some, refl, sym, arith}
use Rattle.std.specs.Prelude.{nat_eq, nat_lt}
use Rattle.std.proofs.lemmas.Bool.{ltb-true, ltb-false, ne_eqb}
use Rattle.std.proofs.lemmas.Bool.Decides.{nat_tests}

pub no_place : (first place number : ℕ) → (if nat_lt number first then None else Some (number - first)) ≡ None → false ≡ nat_eq (first + place) number
no_place first place number e = by (nat_lt number first) refl e
  where
    by : (b : Bool) → nat_lt number first ≡ b → (if b then None else Some (number - first)) ≡ None → false ≡ nat_eq (first + place) number
    by true l q = let h = ltb-true number first l in sym (ne_eqb (first + place) number (λ z. omega (arith, h, z)))
    by false l q = absurd (cc)

pub one_place : (first place number at : ℕ) → (if nat_lt number first then None else Some (number - first)) ≡ Some at → nat_eq at place ≡ nat_eq (first + place) number
one_place first place number at e = by (nat_lt number first) refl e
  where
    by : (b : Bool) → nat_lt number first ≡ b → (if b then None else Some (number - first)) ≡ Some at → nat_eq at place ≡ nat_eq (first + place) number
    by true l q = absurd (cc)
    by false l q =
        let h = ltb-false number first l in
        let z : number - first ≡ at = cc in
        grind (arith, nat_tests, h, z)
