-- What makes a constant positive.
use Rattle.std.proofs.Common.{◌≡◌, ◌≤◌, ℕ, refl, arith}
use Rattle.std.proofs.lemmas.Bool.{ne_eqb}
use Rattle.lp_standard.specs.Constants.{first_declared}
use Rattle.lp_standard.specs.Positive.{IsPositiveConstant}

-- none of `=>`, `:-`, `!` and `not`
pub others_are_positive : (c : ℕ) → (c ≡ 2 → ⊥) → (c ≡ 3 → ⊥) → (c ≡ 7 → ⊥) → (c ≡ 24 → ⊥) → IsPositiveConstant c
others_are_positive c p q r s = rw (ne_eqb c 2 p) (rw (ne_eqb c 3 q) (rw (ne_eqb c 7 r) (rw (ne_eqb c 24 s) refl)))

pub declared_is_positive : (c : ℕ) → first_declared ≤ c → IsPositiveConstant c
declared_is_positive c l =
    others_are_positive c (λ e. let p : c ≡ 2 = e in omega (arith, l, p)) (λ e. let p : c ≡ 3 = e in omega (arith, l, p)) (λ e. let p : c ≡ 7 = e in omega (arith, l, p)) (λ e. let p : c ≡ 24 = e in omega (arith, l, p))
