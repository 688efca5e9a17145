-- What scans and settling build is kept: of each property of terms that reduction and building keep.
use Rattle.std.proofs.Common.{◌≡◌, ℕ, zero, suc, List, [], ◌∷◌, ◌++◌, subst as transport, true, false, Option, Some, None}
use Rattle.std.specs.Prelude.{nat_le, min, option_map, option_and_then}
use Rattle.lp_calculus.specs.Term.{Term, atom, abs, app, apply, substitute, eigen, logic}
use Rattle.lp_calculus.specs.Convert.{here, by_beta, done, then_step}
use Rattle.lp_calculus.specs.Fill.{put, abstraction, abstracted}
use Rattle.lp_calculus.proofs.Rigid.{rigid_head}
use Rattle.lp_lemmas.specs.Each.{EachOf}
use Rattle.lp_model.specs.Patterns.{eigens, chosen}
use Rattle.lp_model.specs.Look.{Look, an_abs, rigid, flexible, look, pattern_of}
use Rattle.lp_model.specs.Scan.{Side, allows, Pattern, Scanned, broken, whole, scan, first_misfit, renewal, Pruned, led_by, prune, settle, settle_all}
use Rattle.lp_unify_laws.proofs.Looks.{seen, look_reduces}
use Rattle.lp_unify_laws.proofs.Firm.{IsFirm, look_firm}
use Rattle.lp_search_laws.proofs.AtomsKept.{bind_is, map_is, some_is}
use Rattle.lp_search_laws.proofs.Families.{Keeps}

module _ (K : Term → Type 0) (keep : Keeps K) where
  pub kept_apply : (h : Term) (ts : List Term) → K h → EachOf K ts → K (apply h ts)
  kept_apply h [] p q = p
  kept_apply h (t ∷ ts) p q = kept_apply (app h t) ts (keep.applies h t p q.0) q.1

  pub kept_opened : (c : ℕ) (b : Term) → K (abs b) → K (substitute (atom (eigen c)) b)
  kept_opened c b h = keep.reduces (then_step (here (by_beta b (atom (eigen c)))) (done (substitute (atom (eigen c)) b))) (keep.applies (abs b) (atom (eigen c)) h (keep.local c))

  -- of what is seen: the head and the arguments
  abbrev pub Parted : Look → Type 0
  Parted (an_abs b) = K (abs b)
  Parted (rigid h ts) = K h × EachOf K ts
  Parted (flexible y m ts) = K (atom (logic y m)) × EachOf K ts

  parted : (v : Look) → IsFirm v → K (seen v) → Parted v
  parted (an_abs b) f h = h
  parted (rigid g ts) f h = keep.parts g ts (rigid_head g f) h
  parted (flexible y m ts) f h = keep.parts (atom (logic y m)) ts tt h

  pub look_parted : (n : ℕ) (t : Term) (v : Look) → look n t ≡ Some v → K t → Parted v
  look_parted n t v e h = parted v (look_firm n t v e) (keep.reduces (look_reduces n t v e) h)

  pub kept_abstracted : (cs : List ℕ) (t : Term) → K t → K (abstracted cs t)
  kept_abstracted [] t h = h
  kept_abstracted (c ∷ cs) t h = keep.abstracts c (abstracted cs t) (kept_abstracted cs t h)

  kept_eigens : (ks : List ℕ) → EachOf K (eigens ks)
  kept_eigens [] = tt
  kept_eigens (k ∷ ks) = (keep.local k, kept_eigens ks)

  pub kept_pattern : (x l : ℕ) (ks : List ℕ) → K (apply (atom (logic x l)) (eigens ks))
  kept_pattern x l ks = kept_apply (atom (logic x l)) (eigens ks) (keep.free x l) (kept_eigens ks)

  -- what settling with n steps keeps
  abbrev Settles : ℕ → Type 0
  Settles n = (k : ℕ) (t u : Term) → settle n k t ≡ Some u → K t → K u

  abbrev SettlesAll : ℕ → Type 0
  SettlesAll n = (k : ℕ) (g : Term) (ts : List Term) (u : Term) → settle_all n k g ts ≡ Some u → K g → EachOf K ts → K u

  settled_pattern : (n : ℕ) → SettlesAll n → (k : ℕ) (u : Term) (y m : ℕ) (ts : List Term) (o : Option (List ℕ)) → (elim o as (λ x. Option Term) [
    | Some b ↦ Some (apply (atom (logic y m)) (eigens b))
    | None ↦ settle_all n k (atom (logic y m)) ts
  ]) ≡ Some u → K (atom (logic y m)) × EachOf K ts → K u
  settled_pattern n all k u y m ts (Some b) e h = transport K (some_is (apply (atom (logic y m)) (eigens b)) u e) (kept_pattern y m b)
  settled_pattern n all k u y m ts None e h = all k (atom (logic y m)) ts u e h.0 h.1

  settled_look : (n : ℕ) → Settles n → SettlesAll n → (k : ℕ) (u : Term) (v : Look) → (elim v as (λ x. Option Term) [
    | an_abs b ↦ option_map (abstraction (suc k)) (settle n (suc k) (substitute (atom (eigen (suc k))) b))
    | rigid h ts ↦ settle_all n k h ts
    | flexible y m ts ↦ option_and_then (λ o. elim o as (λ x. Option Term) [
      | Some b ↦ Some (apply (atom (logic y m)) (eigens b))
      | None ↦ settle_all n k (atom (logic y m)) ts
    ]) (pattern_of n m ts)
  ]) ≡ Some u → Parted v → K u
  settled_look n f all k u (an_abs b) e h =
      let r = map_is (settle n (suc k) (substitute (atom (eigen (suc k))) b)) (abstraction (suc k)) u e in
      transport K r.2 (keep.abstracts (suc k) r.0 (f (suc k) (substitute (atom (eigen (suc k))) b) r.0 r.1 (kept_opened (suc k) b h)))
  settled_look n f all k u (rigid g ts) e h = all k g ts u e h.0 h.1
  settled_look n f all k u (flexible y m ts) e h = let b = bind_is (pattern_of n m ts) _ u e in settled_pattern n all k u y m ts b.0 b.2 h

  mutual
    pub kept_settle : (n k : ℕ) (t u : Term) → settle n k t ≡ Some u → K t → K u
    kept_settle zero k t u e h = absurd (cc)
    kept_settle (suc n) k t u e h = let b = bind_is (look n t) _ u e in settled_look n (λ j x y q g. kept_settle n j x y q g) (λ j g ts y q p i. kept_settle_all n j g ts y q p i) k u b.0 b.2 (look_parted n t b.0 b.1 h)

    kept_settle_all : (n k : ℕ) (g : Term) (ts : List Term) (u : Term) → settle_all n k g ts ≡ Some u → K g → EachOf K ts → K u
    kept_settle_all zero k g ts u e p h = absurd (cc)
    kept_settle_all (suc n) k g [] u e p h = transport K (some_is g u e) p
    kept_settle_all (suc n) k g (t ∷ ts) u e p h =
        let b = bind_is (settle n k t) (λ x. settle_all n k (app g x) ts) u e in
        kept_settle_all n k (app g b.0) ts u b.2 (keep.applies g b.0 p (kept_settle n k t b.0 b.1 h.0)) h.1

  renewal_atoms : (s : Side) (next : ℕ) (p : Pattern) → K (renewal s next p).value
  renewal_atoms s next p =
      let cs = chosen (λ k. nat_le k p.level) s.arguments ++ chosen (allows s) p.arguments in
      kept_abstracted p.arguments (apply (atom (logic next (min s.level p.level))) (eigens cs)) (kept_pattern next (min s.level p.level) cs)

  pub record IsPrunedTo (r : Pruned) : Type 0 where
    pub bindings : EachOf (λ b. K b.value) r.bindings
    pub term : K r.term

  pub kept_prune : (n : ℕ) (s : Side) (next : ℕ) (t : Term) (r : Pruned) → prune n s next t ≡ Some r → K t → IsPrunedTo r
  kept_prune zero s next t r e h = absurd (cc)
  kept_prune (suc n) s next t r e h =
      let b = bind_is (scan n s false s.pair t) _ r e in
      scanned (λ p q k. kept_prune n s (suc next) (put (renewal s next p) t) q k (keep.puts (renewal s next p) (renewal_atoms s next p) t h)) b.0 b.2
    where
      misfit : ((p : Pattern) (q : Pruned) → prune n s (suc next) (put (renewal s next p) t) ≡ Some q → IsPrunedTo q) → (o : Option Pattern) → (elim o as (λ x. Option Pruned) [
        | None ↦ Some (record { bindings = []; next = next; term = t })
        | Some p ↦ option_map (led_by (renewal s next p)) (prune n s (suc next) (put (renewal s next p) t))
      ]) ≡ Some r → IsPrunedTo r
      misfit f None q = transport IsPrunedTo (some_is (record { bindings = []; next = next; term = t }) r q) (record { bindings = tt; term = h })
      misfit f (Some p) q =
          let m = map_is (prune n s (suc next) (put (renewal s next p) t)) (led_by (renewal s next p)) r q in
          let g = f p m.0 m.1 in
          transport IsPrunedTo m.2 (record { bindings = (renewal_atoms s next p, g.bindings); term = g.term })

      scanned : ((p : Pattern) (q : Pruned) → prune n s (suc next) (put (renewal s next p) t) ≡ Some q → IsPrunedTo q) → (w : Scanned) → (elim w as (λ x. Option Pruned) [
        | broken u ↦ None
        | whole u true ps ↦ None
        | whole u false ps ↦ elim (first_misfit s ps) as (λ x. Option Pruned) [
          | None ↦ Some (record { bindings = []; next = next; term = t })
          | Some p ↦ option_map (led_by (renewal s next p)) (prune n s (suc next) (put (renewal s next p) t))
        ]
      ]) ≡ Some r → IsPrunedTo r
      scanned f (broken u) q = absurd (cc)
      scanned f (whole u true ps) q = absurd (cc)
      scanned f (whole u false ps) q = misfit f (first_misfit s ps) q
