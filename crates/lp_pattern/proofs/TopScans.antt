-- What the definition scans is scanned by looks that leave abstractions as they are, also on terms whose head reduction comes to the same.
use Rattle.std.proofs.Common.{◌≡◌, ℕ, zero, suc, ◌<◌, ◌≤◌, List, [], ◌∷◌, ◌∙◌, refl, sym, ap, subst as transport, arith, Bool, true, false, Option, Some, None, ◌||◌, ◌⊎◌, inl, inr}
use Rattle.std.specs.Prelude.{option_map, option_and_then, not, nat_lt}
use Rattle.lp_calculus.specs.Term.{Term, index, atom, abs, app, eigen, substitute}
use Rattle.lp_calculus.specs.Convert.{head_step, option_term, steps}
use Rattle.lp_model.specs.Look.{Look, an_abs, rigid, flexible, looked, head_normal, look, pattern_of, weak_step, top_normal}
use Rattle.lp_model.specs.Scan.{Side, is_side, allows_head, Scanned, broken, whole, above, beside, scanned_pattern, scan, scan_all}
use Rattle.lp_pattern.specs.TopLooks.{top_look, scan_top, scan_seen, scan_tops}
use Rattle.lp_unify_laws.proofs.Looks.{weak_head}
use Rattle.lp_unify_laws.proofs.MoreSteps.Scans.{Below, below_none, below_same, below_then, below_map, pattern_more}
use Rattle.lp_pattern.proofs.Compares.{from_bind, from_map}
use Rattle.lp_pattern.proofs.Naming.{opened_normal, opened_steps}

-- a look is a number of head steps to a term that takes none
pub record Reached (n : ℕ) (t : Term) (v : Term) : Type 0 where
  pub count : ℕ
  pub few : count < n
  pub leads : steps head_step count t ≡ Some v
  pub ends : head_step v ≡ None

pub from_look : (n : ℕ) (t v : Term) → head_normal n t ≡ Some v → Reached n t v
from_look zero t v e = absurd (cc)
from_look (suc n) t v e = go (head_step t) refl e (λ s q. from_look n s v q)
  where
    go : (o : Option Term) → head_step t ≡ o → (elim o as (λ z. Option Term) [ None ↦ Some t | Some s ↦ head_normal n s ]) ≡ Some v → ((s : Term) → head_normal n s ≡ Some v → Reached n s v) → Reached (suc n) t v
    go None h q f = let i : t ≡ v = cc in record { count = 0; few = omega arith; leads = ap (λ x. Some x) i; ends = ap head_step (sym i) ∙ h }
    go (Some s) h q f =
        let r = f s q in record {
          count = suc r.count;
          few = omega (arith, r.few);
          leads = ap (λ (x : Option Term). elim x as (λ z. Option Term) [ None ↦ None | Some u ↦ steps head_step r.count u ]) h ∙ r.leads;
          ends = r.ends;
        }

-- head steps are steps at the top, and then steps below an abstraction
pub data Tops (m : ℕ) (t v : Term) : Type 0 where
  -- the top is reached
  at_top : (p : ℕ) → p ≤ m → steps weak_step p t ≡ Some v → weak_step v ≡ None → Tops m t v
  -- an abstraction is
  at_abs : (p q : ℕ) (a b : Term) → p ≤ m → q ≤ m → steps weak_step p t ≡ Some (abs a) → v ≡ abs b → steps head_step q a ≡ Some b → Tops m t v

no_head_no_weak : (t : Term) → head_step t ≡ None → weak_step t ≡ None
no_head_no_weak t e = go (weak_step t) refl
  where
    go : (o : Option Term) → weak_step t ≡ o → weak_step t ≡ None
    go None h = h
    go (Some s) h = absurd (let q : Some s ≡ None = sym (weak_head t s h) ∙ e in cc)

no_weak_no_head : (t : Term) → weak_step t ≡ None → ((b : Term) → t ≡ abs b → ⊥) → head_step t ≡ None
no_weak_no_head (index i) e h = refl
no_weak_no_head (atom a) e h = refl
no_weak_no_head (abs b) e h = absurd (h b refl)
no_weak_no_head (app (abs b) u) e h = absurd (cc)
no_weak_no_head (app (index i) u) e h = refl
no_weak_no_head (app (atom a) u) e h = refl
no_weak_no_head (app (app t v) u) e h = ap (option_term (λ s. app s u)) (no_weak_no_head (app t v) (none_of (weak_step (app t v)) e) (λ b q. absurd (cc)))
  where
    none_of : (o : Option Term) → option_term (λ s. app s u) o ≡ None → o ≡ None
    none_of None q = refl
    none_of (Some s) q = absurd (cc)

abs_steps : (m : ℕ) (a v : Term) → steps head_step m (abs a) ≡ Some v → (b : Term) × (v ≡ abs b) × (steps head_step m a ≡ Some b)
abs_steps zero a v e = (a, (cc), refl)
abs_steps (suc m) a v e = go (head_step a) refl e (λ c q. abs_steps m c v q)
  where
    go : (o : Option Term) → head_step a ≡ o → (elim (option_term abs o) as (λ z. Option Term) [ None ↦ None | Some s ↦ steps head_step m s ]) ≡ Some v →
        ((c : Term) → steps head_step m (abs c) ≡ Some v → (b : Term) × (v ≡ abs b) × (steps head_step m c ≡ Some b)) → (b : Term) × (v ≡ abs b) × (steps head_step (suc m) a ≡ Some b)
    go None h q f = absurd (cc)
    go (Some c) h q f =
        let w = f c q in (w.0, w.1, ap (λ (x : Option Term). elim x as (λ z. Option Term) [ None ↦ None | Some u ↦ steps head_step m u ]) h ∙ w.2)

one_more : (f : Term → Option Term) (t s v : Term) (p : ℕ) → f t ≡ Some s → steps f p s ≡ Some v → steps f (suc p) t ≡ Some v
one_more f t s v p h e = ap (λ (x : Option Term). elim x as (λ z. Option Term) [ None ↦ None | Some u ↦ steps f p u ]) h ∙ e

is_abs : (t : Term) → ((b : Term) × (t ≡ abs b)) ⊎ ((b : Term) → t ≡ abs b → ⊥)
is_abs (index i) = inr (λ b q. absurd (cc))
is_abs (atom a) = inr (λ b q. absurd (cc))
is_abs (abs b) = inl (b, refl)
is_abs (app t u) = inr (λ b q. absurd (cc))

pub split : (m : ℕ) (t v : Term) → steps head_step m t ≡ Some v → head_step v ≡ None → Tops m t v
split zero t v e n = let i : t ≡ v = cc in at_top 0 (omega arith) (ap (λ x. Some x) i) (no_head_no_weak v n)
split (suc m) t v e n = go (weak_step t) refl (λ s q. split m s v q n)
  where
    more : (s : Term) → weak_step t ≡ Some s → Tops m s v → Tops (suc m) t v
    more s h (at_top p l r w) = at_top (suc p) (omega (arith, l)) (one_more weak_step t s v p h r) w
    more s h (at_abs p q a b l k r w x) = at_abs (suc p) q a b (omega (arith, l)) (omega (arith, k)) (one_more weak_step t s (abs a) p h r) w x

    after : (s : Term) → weak_step t ≡ Some s → steps head_step m s ≡ Some v
    after s h = sym (ap (λ (x : Option Term). elim x as (λ z. Option Term) [ None ↦ None | Some u ↦ steps head_step m u ]) (weak_head t s h)) ∙ e

    stuck : weak_step t ≡ None → ((b : Term) × (t ≡ abs b)) ⊎ ((b : Term) → t ≡ abs b → ⊥) → Tops (suc m) t v
    stuck h (inl w) =
        let x = abs_steps (suc m) w.0 v (ap (steps head_step (suc m)) (sym w.1) ∙ e) in at_abs 0 (suc m) w.0 x.0 (omega arith) (omega arith) (ap (λ y. Some y) w.1) x.1 x.2
    stuck h (inr w) =
        absurd (let q : None ≡ Some v = sym (ap (λ (x : Option Term). elim x as (λ z. Option Term) [ None ↦ None | Some u ↦ steps head_step m u ]) (no_weak_no_head t h w)) ∙ e in cc)

    go : (o : Option Term) → weak_step t ≡ o → ((s : Term) → steps head_step m s ≡ Some v → Tops m s v) → Tops (suc m) t v
    go None h f = stuck h (is_abs t)
    go (Some s) h f = more s h (f s (after s h))

-- enough steps for a look at the top
pub top_reached : (p limit : ℕ) (t v : Term) → p < limit → steps weak_step p t ≡ Some v → weak_step v ≡ None → top_normal limit t ≡ Some v
top_reached p zero t v l e n = absurd (omega (arith, l))
top_reached zero (suc limit) t v l e n =
    let i : t ≡ v = cc in
    ap (λ (x : Option Term). elim x as (λ z. Option Term) [ None ↦ Some t | Some s ↦ top_normal limit s ]) (ap weak_step i ∙ n) ∙ ap (λ x. Some x) i
top_reached (suc p) (suc limit) t v l e n = go (weak_step t) refl e (λ s q. top_reached p limit s v (omega (arith, l)) q n)
  where
    go : (o : Option Term) → weak_step t ≡ o → (elim o as (λ z. Option Term) [ None ↦ None | Some s ↦ steps weak_step p s ]) ≡ Some v → ((s : Term) → steps weak_step p s ≡ Some v → top_normal limit s ≡ Some v) →
        (elim o as (λ z. Option Term) [ None ↦ Some t | Some s ↦ top_normal limit s ]) ≡ Some v
    go None h q f = absurd (cc)
    go (Some s) h q f = f s q

abbrev scan_after : ℕ → Side → (inside : Bool) → (k : ℕ) → Look → Option Scanned
scan_after n s inside k (an_abs b) = scan n s inside (suc k) (substitute (atom (eigen (suc k))) b)
scan_after n s inside k (rigid h ts) = elim (allows_head s h || inside) [
  | true ↦ option_map (above (not (allows_head s h))) (scan_all n s inside k ts)
  | false ↦ Some (broken 1)
]
scan_after n s inside k (flexible y m ts) = option_and_then (λ o. elim o [
  | Some b ↦ Some (scanned_pattern s inside y m b)
  | None ↦ option_map (above (is_side s y m || nat_lt s.level m)) (scan_all n s true k ts)
]) (pattern_of n m ts)

after_is : (n : ℕ) (s : Side) (inside : Bool) (k : ℕ) (v : Look) (r : Scanned) → (elim v as (λ z. Option Scanned) [
  | an_abs b ↦ scan n s inside (suc k) (substitute (atom (eigen (suc k))) b)
  | rigid h ts ↦ elim (allows_head s h || inside) [
    | true ↦ option_map (above (not (allows_head s h))) (scan_all n s inside k ts)
    | false ↦ Some (broken 1)
  ]
  | flexible y m ts ↦ option_and_then (λ o. elim o [
    | Some b ↦ Some (scanned_pattern s inside y m b)
    | None ↦ option_map (above (is_side s y m || nat_lt s.level m)) (scan_all n s true k ts)
  ]) (pattern_of n m ts)
]) ≡ Some r → scan_after n s inside k v ≡ Some r
after_is n s inside k (an_abs b) r e = e
after_is n s inside k (rigid h ts) r e = e
after_is n s inside k (flexible y m ts) r e = e

pub below_elim : (b : Bool) (x x' y : Option Scanned) → Below x x' → Below (elim b as (λ z. Option Scanned) [ true ↦ x | false ↦ y ]) (elim b as (λ z. Option Scanned) [ true ↦ x' | false ↦ y ])
below_elim true x x' y h = h
below_elim false x x' y h = below_same y

-- what was seen, but for an abstraction
after_top : (limit n : ℕ) → n ≤ limit → (s : Side) (inside : Bool) (k : ℕ) (v : Look) → ((k : ℕ) (t : Term) → Below (scan n s inside k t) (scan_top limit n s inside k t)) →
    ((inside : Bool) (ts : List Term) → Below (scan_all n s inside k ts) (scan_tops limit n s inside k ts)) → Below (scan_after n s inside k v) (scan_seen limit n s inside k v)
after_top limit n l s inside k (an_abs b) f g = f (suc k) (substitute (atom (eigen (suc k))) b)
after_top limit n l s inside k (rigid h ts) f g =
    below_elim (allows_head s h || inside) _ _ _ (below_map (scan_all n s inside k ts) (scan_tops limit n s inside k ts) (above (not (allows_head s h))) (g inside ts))
after_top limit n l s inside k (flexible y m ts) f g = below_then (pattern_of n m ts) (pattern_of limit m ts) _ _ (pattern_more n limit l m ts) λ o. go o
  where
    go : (o : Option (List ℕ)) → Below (elim o as (λ z. Option Scanned) [ None ↦ option_map (above (is_side s y m || nat_lt s.level m)) (scan_all n s true k ts) | Some b ↦ Some (scanned_pattern s inside y m b) ])
        (elim o as (λ z. Option Scanned) [ None ↦ option_map (above (is_side s y m || nat_lt s.level m)) (scan_tops limit n s true k ts) | Some b ↦ Some (scanned_pattern s inside y m b) ])
    go None = below_map (scan_all n s true k ts) (scan_tops limit n s true k ts) _ (g true ts)
    go (Some b) = below_same _

-- how many steps there are in all: a term that takes none is where it is
pub together : (limit m : ℕ) (t t' w : Term) → (m ≡ 0) ⊎ (head_step t ≡ None) → m < limit → steps head_step m t' ≡ Some t → Reached limit t w → (j : ℕ) × (j < limit) × (steps head_step j t' ≡ Some w)
together limit m t t' w (inl z) l e r =
    let q : Some t' ≡ Some t = sym (ap (λ x. steps head_step x t') z) ∙ e in
    let i : t' ≡ t = cc in
    (r.count, r.few, ap (steps head_step r.count) i ∙ r.leads)
together limit m t t' w (inr h) l e r = go r.count r.leads
  where
    go : (c : ℕ) → steps head_step c t ≡ Some w → (j : ℕ) × (j < limit) × (steps head_step j t' ≡ Some w)
    go zero q = (m, l, e ∙ q)
    go (suc c) q = absurd (let x : None ≡ Some w = sym (ap (λ (x : Option Term). elim x as (λ z. Option Term) [ None ↦ None | Some u ↦ steps head_step c u ]) h) ∙ q in cc)

pub sooner : (n limit : ℕ) (t w : Term) → n ≤ limit → Reached n t w → Reached limit t w
sooner n limit t w l r = record { count = r.count; few = omega (arith, r.few, l); leads = r.leads; ends = r.ends }

pub body_normal : (v b : Term) → v ≡ abs b → head_step v ≡ None → head_step b ≡ None
body_normal v b e h = go (head_step b) (sym (ap head_step e) ∙ h)
  where
    go : (o : Option Term) → option_term abs o ≡ None → o ≡ None
    go None q = refl
    go (Some c) q = absurd (cc)

pub seen_top : (limit p : ℕ) (t v : Term) → p < limit → steps weak_step p t ≡ Some v → weak_step v ≡ None → top_look limit t ≡ Some (looked v [])
seen_top limit p t v l e h = ap (option_map (λ s. looked s [])) (top_reached p limit t v l e h)

-- the scan is the look, and what is behind it
pub top_is : (limit n : ℕ) (s : Side) (inside : Bool) (k : ℕ) (t : Term) → scan_top limit (suc n) s inside k t ≡ option_and_then (scan_seen limit n s inside k) (top_look limit t)
top_is limit n s inside k t = go (top_look limit t)
  where
    go : (o : Option Look) → option_and_then (λ v. elim v as (λ z. Option Scanned) [
      | an_abs b ↦ scan_top limit n s inside (suc k) (substitute (atom (eigen (suc k))) b)
      | rigid h ts ↦ elim (allows_head s h || inside) [
        | true ↦ option_map (above (not (allows_head s h))) (scan_tops limit n s inside k ts)
        | false ↦ Some (broken 1)
      ]
      | flexible y m ts ↦ option_and_then (λ o. elim o [
        | Some b ↦ Some (scanned_pattern s inside y m b)
        | None ↦ option_map (above (is_side s y m || nat_lt s.level m)) (scan_tops limit n s true k ts)
      ]) (pattern_of limit m ts)
    ]) o ≡ option_and_then (scan_seen limit n s inside k) o
    go None = refl
    go (Some (an_abs b)) = refl
    go (Some (rigid h ts)) = refl
    go (Some (flexible y m ts)) = refl

-- behind the steps
by_tops : (limit n : ℕ) (s : Side) (inside : Bool) (k j : ℕ) (t' w : Term) → j < limit → head_step w ≡ None → Tops j t' w →
    Below (scan_after n s inside k (looked w [])) (scan_seen limit n s inside k (looked w [])) →
    ((b a : Term) (q : ℕ) → head_step b ≡ None → q < limit → steps head_step q a ≡ Some b →
    Below (scan n s inside (suc k) (substitute (atom (eigen (suc k))) b)) (scan_top limit n s inside (suc k) (substitute (atom (eigen (suc k))) a))) →
    Below (scan_after n s inside k (looked w [])) (scan_top limit (suc n) s inside k t')
by_tops limit n s inside k j t' w l h (at_top p m e z) f g = λ r q. top_is limit n s inside k t' ∙ ap (option_and_then (scan_seen limit n s inside k)) (seen_top limit p t' w (omega (arith, l, m)) e z) ∙ f r q
by_tops limit n s inside k j t' w l h (at_abs p q a b m o e x y) f g = λ r i.
    top_is limit n s inside k t' ∙ ap (option_and_then (scan_seen limit n s inside k)) (seen_top limit p t' (abs a) (omega (arith, l, m)) e refl) ∙
    g b a q (body_normal w b x h) (omega (arith, l, o)) y r (sym (ap (λ v. scan_after n s inside k (looked v [])) x) ∙ i)

behind_first : (limit n : ℕ) (s : Side) (inside : Bool) (k : ℕ) (ts : List Term) (r : Scanned) → Below (scan_all n s inside k ts) (scan_tops limit n s inside k ts) →
    Below (elim r as (λ z. Option Scanned) [ broken u ↦ Some (broken u) | whole u d ps ↦ option_map (beside u d ps) (scan_all n s inside k ts) ])
    (elim r as (λ z. Option Scanned) [ broken u ↦ Some (broken u) | whole u d ps ↦ option_map (beside u d ps) (scan_tops limit n s inside k ts) ])
behind_first limit n s inside k ts (broken u) h = below_same _
behind_first limit n s inside k ts (whole u d ps) h = below_map (scan_all n s inside k ts) (scan_tops limit n s inside k ts) (beside u d ps) h

mutual
  pub scan_of : (limit n : ℕ) → n ≤ limit → (s : Side) (inside : Bool) (k : ℕ) (t t' : Term) (m : ℕ) → (m ≡ 0) ⊎ (head_step t ≡ None) → m < limit → steps head_step m t' ≡ Some t →
      Below (scan n s inside k t) (scan_top limit n s inside k t')
  scan_of limit zero l s inside k t t' m h z e = below_none (scan_top limit zero s inside k t')
  scan_of limit (suc n) l s inside k t t' m h z e = λ r q.
      let v = from_bind _ (look n t) r q in
      let w = from_map (λ x. looked x []) (head_normal n t) v.0 v.1 in
      let c = from_look n t w.0 w.1 in
      let j = together limit m t t' w.0 h z e (sooner n limit t w.0 (omega (arith, l)) c) in
      by_tops limit n s inside k j.0 t' w.0 j.1 c.ends (split j.0 t' w.0 j.2 c.ends)
      (after_top limit n (omega (arith, l)) s inside k (looked w.0 [])
      (λ i u. scan_of limit n (omega (arith, l)) s inside i u u 0 (inl refl) (omega (arith, l)) refl)
      (λ d us. scans_of limit n (omega (arith, l)) s d k us))
      (λ b a o y x p. scan_of limit n (omega (arith, l)) s inside (suc k) (substitute (atom (eigen (suc k))) b) (substitute (atom (eigen (suc k))) a) o (inr (opened_normal (suc k) b y)) x (opened_steps (suc k) o a b p))
      r (transport (λ x. scan_after n s inside k x ≡ Some r) w.2 (after_is n s inside k v.0 r v.2))

  pub scans_of : (limit n : ℕ) → n ≤ limit → (s : Side) (inside : Bool) (k : ℕ) (ts : List Term) → Below (scan_all n s inside k ts) (scan_tops limit n s inside k ts)
  scans_of limit zero l s inside k ts = below_none (scan_tops limit zero s inside k ts)
  scans_of limit (suc n) l s inside k [] = below_same _
  scans_of limit (suc n) l s inside k (t ∷ ts) =
      below_then (scan n s inside k t) (scan_top limit n s inside k t) _ _ (scan_of limit n (omega (arith, l)) s inside k t t 0 (inl refl) (omega (arith, l)) refl)
      (λ r. behind_first limit n s inside k ts r (scans_of limit n (omega (arith, l)) s inside k ts))
