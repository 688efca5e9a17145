-- What the definition settles is settled by looks that leave abstractions as they are, also where head reduction comes to the term.
use Rattle.std.proofs.Common.{◌≡◌, ℕ, zero, suc, ◌<◌, ◌≤◌, List, [], ◌∷◌, ◌∙◌, refl, sym, ap, subst as transport, arith, Option, Some, None, ◌⊎◌, inl, inr}
use Rattle.std.specs.Prelude.{option_map, option_and_then}
use Rattle.lp_calculus.specs.Term.{Term, abs, app, apply, atom, eigen, logic, substitute}
use Rattle.lp_calculus.specs.Convert.{head_step, steps}
use Rattle.lp_calculus.specs.Fill.{abstraction}
use Rattle.lp_model.specs.Look.{Look, an_abs, rigid, flexible, looked, head_normal, look, pattern_of}
use Rattle.lp_model.specs.Patterns.{eigens}
use Rattle.lp_model.specs.Scan.{settle, settle_all}
use Rattle.lp_pattern.specs.Settling.{Settles, settles_abs, settles_rigid, settles_pattern, settles_open, SettleAll, settle_none, settle_more}
use Rattle.lp_pattern.specs.TopLooks.{top_look}
use Rattle.lp_pattern.proofs.Compares.{from_bind, from_map}
use Rattle.lp_pattern.proofs.Naming.{opened_normal, opened_steps}
use Rattle.lp_unify_laws.proofs.MoreSteps.Scans.{pattern_more}
use Rattle.lp_pattern.proofs.TopScans.{from_look, Tops, at_top, at_abs, split, together, sooner, body_normal, seen_top}

abbrev by_pattern : ℕ → (k y m : ℕ) → List Term → Option (List ℕ) → Option Term
by_pattern n k y m ts o = elim o [
  | Some b ↦ Some (apply (atom (logic y m)) (eigens b))
  | None ↦ settle_all n k (atom (logic y m)) ts
]

abbrev settle_after : ℕ → (k : ℕ) → Look → Option Term
settle_after n k (an_abs b) = option_map (abstraction (suc k)) (settle n (suc k) (substitute (atom (eigen (suc k))) b))
settle_after n k (rigid h ts) = settle_all n k h ts
settle_after n k (flexible y m ts) = option_and_then (by_pattern n k y m ts) (pattern_of n m ts)

after_is : (n k : ℕ) (v : Look) (r : Term) → (elim v as (λ z. Option Term) [
  | an_abs b ↦ option_map (abstraction (suc k)) (settle n (suc k) (substitute (atom (eigen (suc k))) b))
  | rigid h ts ↦ settle_all n k h ts
  | flexible y m ts ↦ option_and_then (by_pattern n k y m ts) (pattern_of n m ts)
]) ≡ Some r → settle_after n k v ≡ Some r
after_is n k (an_abs b) r e = e
after_is n k (rigid h ts) r e = e
after_is n k (flexible y m ts) r e = e

-- arguments that are settled behind a head
pub record Applied (limit k : ℕ) (h : Term) (ts : List Term) (r : Term) : Type 0 where
  pub values : List Term
  pub settled : SettleAll limit k ts values
  pub is : r ≡ apply h values

of_pattern : (limit n k y m : ℕ) (t : Term) (ts : List Term) (o : Option (List ℕ)) (r : Term) → n ≤ limit → top_look limit t ≡ Some (flexible y m ts) → pattern_of n m ts ≡ Some o → by_pattern n k y m ts o ≡ Some r →
    ((h : Term) (us : List Term) (r : Term) → settle_all n k h us ≡ Some r → Applied limit k h us r) → Settles limit k t r
of_pattern limit n k y m t ts (Some b) r l e q p g =
    let i : apply (atom (logic y m)) (eigens b) ≡ r = cc in
    settles_pattern y m ts b e (pattern_more n limit l m ts (Some b) q) (sym i)
of_pattern limit n k y m t ts None r l e q p g =
    let a = g (atom (logic y m)) ts r p in
    settles_open y m ts a.values e (pattern_more n limit l m ts None q) a.settled a.is

of_look : (limit n k : ℕ) (t : Term) (v : Look) (r : Term) → n ≤ limit → top_look limit t ≡ Some v → settle_after n k v ≡ Some r → ((j : ℕ) (b r : Term) → settle n j b ≡ Some r → Settles limit j b r) →
    ((h : Term) (us : List Term) (r : Term) → settle_all n k h us ≡ Some r → Applied limit k h us r) → Settles limit k t r
of_look limit n k t (an_abs b) r l e q f g =
    let w = from_map (abstraction (suc k)) (settle n (suc k) (substitute (atom (eigen (suc k))) b)) r q in settles_abs b w.0 e (f (suc k) (substitute (atom (eigen (suc k))) b) w.0 w.1) w.2
of_look limit n k t (rigid h ts) r l e q f g = let a = g h ts r q in settles_rigid h ts a.values e a.settled a.is
of_look limit n k t (flexible y m ts) r l e q f g = let w = from_bind (by_pattern n k y m ts) (pattern_of n m ts) r q in of_pattern limit n k y m t ts w.0 r l e w.1 w.2 g

-- behind the steps
by_tops : (limit n k j : ℕ) (t w r : Term) → n ≤ limit → j < limit → head_step w ≡ None → Tops j t w → settle_after n k (looked w []) ≡ Some r →
    ((j : ℕ) (b r : Term) → settle n j b ≡ Some r → Settles limit j b r) → ((h : Term) (us : List Term) (r : Term) → settle_all n k h us ≡ Some r → Applied limit k h us r) →
    ((b a : Term) (q : ℕ) (r : Term) → head_step b ≡ None → q < limit → steps head_step q a ≡ Some b → settle n (suc k) (substitute (atom (eigen (suc k))) b) ≡ Some r →
    Settles limit (suc k) (substitute (atom (eigen (suc k))) a) r) → Settles limit k t r
by_tops limit n k j t w r l i h (at_top p m e z) q f g x = of_look limit n k t (looked w []) r l (seen_top limit p t w (omega (arith, i, m)) e z) q f g
by_tops limit n k j t w r l i h (at_abs p o a b m y e z s) q f g x =
    let d = from_map (abstraction (suc k)) (settle n (suc k) (substitute (atom (eigen (suc k))) b)) r (sym (ap (λ v. settle_after n k (looked v [])) z) ∙ q) in
    settles_abs a d.0 (seen_top limit p t (abs a) (omega (arith, i, m)) e refl) (x b a o d.0 (body_normal w b z h) (omega (arith, i, y)) s d.1) d.2

mutual
  pub settle_of : (limit n : ℕ) → n ≤ limit → (k : ℕ) (t t' : Term) (m : ℕ) → (m ≡ 0) ⊎ (head_step t ≡ None) → m < limit → steps head_step m t' ≡ Some t → (r : Term) → settle n k t ≡ Some r → Settles limit k t' r
  settle_of limit zero l k t t' m h z e r q = absurd (cc)
  settle_of limit (suc n) l k t t' m h z e r q =
      let v = from_bind _ (look n t) r q in
      let w = from_map (λ x. looked x []) (head_normal n t) v.0 v.1 in
      let c = from_look n t w.0 w.1 in
      let j = together limit m t t' w.0 h z e (sooner n limit t w.0 (omega (arith, l)) c) in
      by_tops limit n k j.0 t' w.0 r (omega (arith, l)) j.1 c.ends (split j.0 t' w.0 j.2 c.ends)
      (transport (λ x. settle_after n k x ≡ Some r) w.2 (after_is n k v.0 r v.2))
      (λ i u s p. settle_of limit n (omega (arith, l)) i u u 0 (inl refl) (omega (arith, l)) refl s p)
      (λ g us s p. settle_all_of limit n (omega (arith, l)) k g us s p)
      (λ b a o s y x p d. settle_of limit n (omega (arith, l)) (suc k) (substitute (atom (eigen (suc k))) b) (substitute (atom (eigen (suc k))) a) o (inr (opened_normal (suc k) b y)) x (opened_steps (suc k) o a b p) s d)

  pub settle_all_of : (limit n : ℕ) → n ≤ limit → (k : ℕ) (h : Term) (ts : List Term) (r : Term) → settle_all n k h ts ≡ Some r → Applied limit k h ts r
  settle_all_of limit zero l k h ts r q = absurd (cc)
  settle_all_of limit (suc n) l k h [] r q = let i : h ≡ r = cc in record { values = []; settled = settle_none; is = sym i }
  settle_all_of limit (suc n) l k h (t ∷ ts) r q =
      let v = from_bind (λ u. settle_all n k (app h u) ts) (settle n k t) r q in
      let a = settle_all_of limit n (omega (arith, l)) k (app h v.0) ts r v.2 in
      record { values = v.0 ∷ a.values; settled = settle_more (settle_of limit n (omega (arith, l)) k t t 0 (inl refl) (omega (arith, l)) refl v.0 v.1) a.settled; is = a.is }

-- settled in n steps of each kind
pub settled_in : (n k : ℕ) (t r : Term) → settle n k t ≡ Some r → Settles n k t r
settled_in zero k t r q = absurd (cc)
settled_in (suc n) k t r q = settle_of (suc n) (suc n) (omega arith) k t t 0 (inl refl) (omega arith) refl r q
