-- Numbers that are compared.
use Rattle.std.proofs.Common.{◌≡◌, ◌≢◌, ℕ, zero, suc, ◌<◌, ◌≤◌, true, refl, ap, arith, inl, inr}
use Rattle.std.specs.Prelude.{◌⊎◌, nat_eq}
use Rattle.std.proofs.lemmas.Bool.Decides.{nat_tests}

pub nat_eq_self : (n : ℕ) → nat_eq n n ≡ true
nat_eq_self n = grind (arith, nat_tests)

pub nat_eq_comm : (m n : ℕ) → nat_eq m n ≡ nat_eq n m
nat_eq_comm m n = grind (arith, nat_tests)

pub equal_or_not : (m n : ℕ) → (m ≡ n) ⊎ (m ≢ n)
equal_or_not zero zero = inl refl
equal_or_not zero (suc n) = inr (λ e. omega arith)
equal_or_not (suc m) zero = inr (λ e. omega arith)
equal_or_not (suc m) (suc n) = elim (equal_or_not m n) [ inl e ↦ inl (ap suc e) | inr d ↦ inr (λ e. d (omega arith)) ]

pub below_suc : (n i : ℕ) → i < suc n → (i < n) ⊎ (i ≡ n)
below_suc zero zero h = inr refl
below_suc zero (suc i) h = absurd (omega (arith, h))
below_suc (suc n) zero h = inl (omega arith)
below_suc (suc n) (suc i) h = elim (below_suc n i (omega (arith, h))) [ inl l ↦ inl (omega (arith, l)) | inr e ↦ inr (ap suc e) ]

pub equal_or_above : (m n : ℕ) → m ≤ n → (n ≡ m) ⊎ (suc m ≤ n)
equal_or_above zero zero h = inl refl
equal_or_above zero (suc n) h = inr (omega arith)
equal_or_above (suc m) zero h = absurd (omega (arith, h))
equal_or_above (suc m) (suc n) h = elim (equal_or_above m n (omega (arith, h))) [ inl e ↦ inl (ap suc e) | inr l ↦ inr (omega (arith, l)) ]
