-- Registers that are set one after the other.
use Rattle.std.proofs.Common.{◌≡◌, ◌∙◌, ◌<◌, ℕ, zero, suc, List, [], ◌∷◌, ◌++◌, length, Bool, true, false, true≢false, Option, Some, None, ap, refl, sym}
use Rattle.std.specs.Prelude.{nat_eq, slice_set}
use Rattle.std.proofs.lemmas.Bool.{eqb-true, eq-eqb, ne_eqb}
use Rattle.lp_lemmas.proofs.Booleans.{or_false_left, or_false_right}
use Rattle.lp_code.specs.Symbolic.{held}
use Rattle.lp_code.specs.States.{member}
use Rattle.lp_gen.proofs.Denoting.{or_none, held_set}

pub held_elsewhere : {A : Type 0} (xs : List (Option A)) (d r : ℕ) (o : Option A) → (r ≡ d → ⊥) → held (slice_set xs d o) r ≡ held xs r
held_elsewhere [] d r o n = refl
held_elsewhere (x ∷ xs) zero zero o n = absurd (n refl)
held_elsewhere (x ∷ xs) zero (suc r) o n = refl
held_elsewhere (x ∷ xs) (suc d) zero o n = refl
held_elsewhere (x ∷ xs) (suc d) (suc r) o n = held_elsewhere xs d r o (λ e. n (ap suc e))

member_push : (r d : ℕ) (ds : List ℕ) → member r ds ≡ false → (r ≡ d → ⊥) → member r (ds ++ d ∷ []) ≡ false
member_push r d [] e n = or_none (nat_eq r d) false (ne_eqb r d (λ z. absurd (n z))) refl
member_push r d (x ∷ xs) e n = or_none (nat_eq r x) (member r (xs ++ d ∷ [])) (or_false_left (nat_eq r x) (member r xs) e) (member_push r d xs (or_false_right (nat_eq r x) (member r xs) e) n)

-- by whether two numbers are the same
pub by_same : (P : Type 0) (r d : ℕ) → (r ≡ d → P) → ((r ≡ d → ⊥) → P) → P
by_same P r d f g = go (nat_eq r d) refl
  where
    go : (t : Bool) → nat_eq r d ≡ t → P
    go true e = f (eqb-true r d e)
    go false e = g (λ z. true≢false (sym (eq-eqb r d z) ∙ e))

-- what is not held after a register was set was not set
pub fresh_set : {A : Type 0} (xs : List (Option A)) (ds : List ℕ) (d r : ℕ) (b : A) → d < length xs → ((r : ℕ) → held xs r ≡ None → member r ds ≡ false) → held (slice_set xs d (Some b)) r ≡ None →
    member r (ds ++ d ∷ []) ≡ false
fresh_set xs ds d r b low none e =
    by_same (member r (ds ++ d ∷ []) ≡ false) r d (λ same. absurd (no_some (sym (held_set xs d b low) ∙ ap (held (slice_set xs d (Some b))) (sym same) ∙ e)))
    (λ other. member_push r d ds (none r (sym (held_elsewhere xs d r (Some b) other) ∙ e)) other)
  where
    no_some : Some b ≡ None → ⊥
    no_some z = cc
