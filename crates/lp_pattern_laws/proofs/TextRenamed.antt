-- Pattern text under a renaming that keeps what binds each index, and their order.
use Rattle.std.proofs.Common.{◌≡◌, ℕ, zero, suc, ◌<◌, List, ◌∷◌, Option, Some, None, refl, sym, inl, inr, subst as transport, arith}
use Rattle.std.specs.Prelude.{slice_get}
use Rattle.std.proofs.lemmas.Bool.{cases_lt}
use Rattle.lp_calculus.specs.Term.{Term, index, atom, abs, app, Atom}
use Rattle.lp_calculus.proofs.Sigma.{lift, rename}
use Rattle.lp_pattern_laws.specs.Patterns.{Name, bound, free, under, IsNewToAtom}
use Rattle.lp_pattern_laws.specs.Binders.{Binder, universal, existential, IsNewAt, IsNewIn, IsUniversal, IsRigidIn, atom_head, name_head, more_on, IsPatternIn, index_in, atom_in, abs_in, rigid_in, name_in}
use Rattle.lp_pattern_laws.proofs.Naming.{renamed, under_renamed, names_renamed}

pub record Moves (ρ : ℕ → ℕ) (Γ Δ : List Binder) : Type 0 where
  pub binders : (i : ℕ) (b : Binder) → slice_get Γ i ≡ Some b → slice_get Δ (ρ i) ≡ Some b
  pub rises : (i j : ℕ) → i < j → ρ i < ρ j

pub moves_lift : (ρ : ℕ → ℕ) (Γ Δ : List Binder) (x : Binder) → Moves ρ Γ Δ → Moves (lift ρ) (x ∷ Γ) (x ∷ Δ)
moves_lift ρ Γ Δ x h = record { binders = binders; rises = rises }
  where
    binders : (i : ℕ) (b : Binder) → slice_get (x ∷ Γ) i ≡ Some b → slice_get (x ∷ Δ) (lift ρ i) ≡ Some b
    binders zero b e = e
    binders (suc i) b e = h.binders i b e

    rises : (i j : ℕ) → i < j → lift ρ i < lift ρ j
    rises zero zero l = absurd (omega (arith, l))
    rises zero (suc j) l = omega arith
    rises (suc i) zero l = absurd (omega (arith, l))
    rises (suc i) (suc j) l = let q = h.rises i j (omega (arith, l)) in omega (arith, q)

module _ (ρ : ℕ → ℕ) (Γ Δ : List Binder) (h : Moves ρ Γ Δ) where
  apart : (i j : ℕ) → ρ i ≡ ρ j → i ≡ j
  apart i j e = elim (cases_lt i j) [
    | inl l ↦ absurd (let q = h.rises i j l in omega (arith, q, e))
    | inr l ↦ elim (cases_lt j i) [
      | inl k ↦ absurd (let q = h.rises j i k in omega (arith, q, e))
      | inr k ↦ omega (arith, l, k)
    ]
  ]

  universal_renamed : (n : Name) → IsUniversal Γ n → IsUniversal Δ (renamed ρ n)
  universal_renamed (bound j) u = h.binders j universal u
  universal_renamed (free k) u = tt

  at_renamed : (b : Binder) (n : Name) (i : ℕ) → IsNewAt (Some b) n i → IsNewAt (Some b) (renamed ρ n) (ρ i)
  at_renamed universal (bound j) i k = λ e. k (apart i j e)
  at_renamed universal (free j) i k = tt
  at_renamed existential (bound j) i k = h.rises j i k
  at_renamed existential (free j) i k = k

  index_renamed : (n : Name) (i : ℕ) (o : Option Binder) → slice_get Γ i ≡ o → IsNewAt o n i → IsNewAt (slice_get Δ (ρ i)) (renamed ρ n) (ρ i)
  index_renamed n i None e k = absurd k
  index_renamed n i (Some b) e k = transport (λ o. IsNewAt o (renamed ρ n) (ρ i)) (sym (h.binders i b e)) (at_renamed b n i k)

  rigid_renamed : {t : Term} → IsRigidIn Γ t → IsRigidIn Δ (rename ρ t)
  rigid_renamed (atom_head a r) = atom_head a r
  rigid_renamed (name_head {n = n} u p) = name_head (universal_renamed n u) (names_renamed ρ p)
  rigid_renamed (more_on r) = more_on (rigid_renamed r)

atom_renamed : (ρ : ℕ → ℕ) (n : Name) (a : Atom) → IsNewToAtom n a → IsNewToAtom (renamed ρ n) a
atom_renamed ρ (bound j) a k = tt
atom_renamed ρ (free j) a k = k

new_renamed : (ρ : ℕ → ℕ) (Γ Δ : List Binder) → Moves ρ Γ Δ → (n : Name) (t : Term) → IsNewIn Γ n t → IsNewIn Δ (renamed ρ n) (rename ρ t)
new_renamed ρ Γ Δ h n (index i) k = index_renamed ρ Γ Δ h n i (slice_get Γ i) refl k
new_renamed ρ Γ Δ h n (atom a) k = atom_renamed ρ n a k
new_renamed ρ Γ Δ h n (abs b) k =
    transport (λ m. IsNewIn (universal ∷ Δ) m (rename (lift ρ) b)) (under_renamed ρ n) (new_renamed (lift ρ) (universal ∷ Γ) (universal ∷ Δ) (moves_lift ρ Γ Δ universal h) (under n) b k)
new_renamed ρ Γ Δ h n (app t u) k = (new_renamed ρ Γ Δ h n t k.0, new_renamed ρ Γ Δ h n u k.1)

pub text_renamed : (ρ : ℕ → ℕ) (Γ Δ : List Binder) → Moves ρ Γ Δ → {t : Term} → IsPatternIn Γ t → IsPatternIn Δ (rename ρ t)
text_renamed ρ Γ Δ h (index_in {k = k} i e) = index_in (ρ i) (h.binders i k e)
text_renamed ρ Γ Δ h (atom_in a) = atom_in a
text_renamed ρ Γ Δ h (abs_in p) = abs_in (text_renamed (lift ρ) (universal ∷ Γ) (universal ∷ Δ) (moves_lift ρ Γ Δ universal h) p)
text_renamed ρ Γ Δ h (rigid_in r p q) = rigid_in (rigid_renamed ρ Γ Δ h r) (text_renamed ρ Γ Δ h p) (text_renamed ρ Γ Δ h q)
text_renamed ρ Γ Δ h (name_in {n = n} {t = t} u p q new) =
    name_in (universal_renamed ρ Γ Δ h n u) (text_renamed ρ Γ Δ h p) (names_renamed ρ q) (new_renamed ρ Γ Δ h n t new)
