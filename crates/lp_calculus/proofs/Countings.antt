-- A beta step anywhere makes neither count longer, and a reduction by a step function has one end.
use Rattle.std.proofs.Common.{◌≡◌, ℕ, zero, suc, ◌≤◌, ◌∙◌, refl, sym, ap, subst as transport, arith, Option, Some, None}
use Rattle.std.specs.Prelude.{IsSome}
use Rattle.lp_calculus.specs.Term.{Term}
use Rattle.lp_calculus.specs.Convert.{BetaStep, Reduces, head_step, leftmost_step, steps}
use Rattle.lp_calculus.specs.Normal.{HeadNormalisesTo, NormalisesTo}
use Rattle.lp_calculus.proofs.Confluent.{beta_par, par_reduces}
use Rattle.lp_calculus.proofs.Leftmost.{head_strategy, head_normal_stays, leftmost_strategy, normal_stays, no_longer}

pub head_count_falls : (n : ℕ) (t s z : Term) → BetaStep t s → HeadNormalisesTo n t z → (m : ℕ) × (m ≤ n) × ((y : Term) × HeadNormalisesTo m s y × Reduces z y)
head_count_falls n t s z p h =
    let k = no_longer head_step head_strategy n (beta_par p) z h.0 in
    (k.count, k.fewer, (k.end, (k.leads, head_normal_stays k.near h.1), par_reduces k.near))

pub full_count_falls : (n : ℕ) (t s z : Term) → BetaStep t s → NormalisesTo n t z → (m : ℕ) × (m ≤ n) × NormalisesTo m s z
full_count_falls n t s z p h =
    let k = no_longer leftmost_step leftmost_strategy n (beta_par p) z h.0 in
    let e : k.end ≡ z = normal_stays k.near h.1 in
    (k.count, k.fewer, (transport (λ y. steps leftmost_step k.count s ≡ Some y) e k.leads, h.1))

module _ (f : Term → Option Term) where
  abbrev goes : ℕ → Option Term → Option Term
  goes n o = elim o [ None ↦ None | Some s ↦ steps f n s ]

  pub one_end : (n m : ℕ) (t s r : Term) → steps f n t ≡ Some s → f s ≡ None → steps f m t ≡ Some r → f r ≡ None → (n ≡ m) × (s ≡ r)
  one_end zero zero t s r e h k l = (refl, (cc))
  one_end zero (suc m) t s r e h k l =
      let q : s ≡ t = cc in
      let z : None ≡ Some r = sym (ap (goes m) (ap f (sym q) ∙ h)) ∙ k in absurd (cc)
  one_end (suc n) zero t s r e h k l =
      let q : r ≡ t = cc in
      let z : None ≡ Some s = sym (ap (goes n) (ap f (sym q) ∙ l)) ∙ e in absurd (cc)
  one_end (suc n) (suc m) t s r e h k l = elim (f t) as (λ o. goes n o ≡ Some s → goes m o ≡ Some r → (suc n ≡ suc m) × (s ≡ r)) [
    | None ↦ λ p q. absurd (cc)
    | Some x ↦ λ p q. let z = one_end n m x s r p h q l in (ap suc z.0, z.1)
  ] e k

  pub not_past : (n m : ℕ) (t s : Term) → steps f n t ≡ Some s → f s ≡ None → n ≤ m → IsSome (steps f (suc m) t) → ⊥
  not_past zero m t s e h l k =
      let q : s ≡ t = cc in
      let z : steps f (suc m) t ≡ None = ap (goes m) (ap f (sym q) ∙ h) in absurd (cc)
  not_past (suc n) zero t s e h l k = absurd (omega arith)
  not_past (suc n) (suc m) t s e h l k = elim (f t) as (λ o. goes n o ≡ Some s → IsSome (goes (suc m) o) → ⊥) [
    | None ↦ λ p q. absurd (cc)
    | Some x ↦ λ p q. not_past n m x s p h (omega arith) q
  ] e k
