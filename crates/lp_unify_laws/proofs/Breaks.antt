-- Where a scan fails there is no solution, but for the variable's own occurrence, which typing excludes.
use Rattle.std.proofs.Common.{◌≡◌, ℕ, zero, suc, ◌≤◌, List, [], ◌∷◌, refl, subst as transport, arith, Bool, true, false, nat_eq, if◌then◌else◌, not, ◌||◌, Option, Some, None}
use Rattle.std.specs.Prelude.{nat_lt, option_map, option_and_then}
use Rattle.std.proofs.lemmas.Option.{option_and_then_some}
use Rattle.lp_calculus.specs.Term.{Term, index, atom, abs, app, apply, substitute, constant, integer, text, eigen, logic, param}
use Rattle.lp_calculus.specs.Convert.{Converts, same, ReducesTo, done}
use Rattle.lp_calculus.specs.Fill.{Within, close, at_variables}
use Rattle.lp_model.specs.Look.{Look, an_abs, rigid, flexible, look, pattern_of, are_distinct, are_above}
use Rattle.lp_model.specs.Scan.{Side, is_side, allows_head, Scanned, broken, whole, above, beside, scanned_pattern, scan, scan_all, Pattern, pattern, pattern_term}
use Rattle.lp_calculus.proofs.Steps.{converts_on, converts_sym, converts_reduces, converts_app, converts_fill, within_reduces}
use Rattle.lp_unify_laws.proofs.Looks.{seen, look_reduces, pattern_tells}
use Rattle.lp_unify_laws.proofs.Firm.{IsFirm, look_firm}
use Rattle.lp_calculus.proofs.Rigid.{IsRigid, rigid_reaches, reduces_on}
use Rattle.lp_unify_laws.proofs.Sames.{both, same_number}
use Rattle.lp_unify_laws.proofs.Closings.{WithinAll, within_apply, close_all}
use Rattle.lp_unify_laws.proofs.Plainly.{close_seen_rigid}
use Rattle.lp_unify_laws.proofs.Scans.{Seen, open_converts, open_seen, reduces_spine}
use Rattle.lp_unify_laws.proofs.Cleans.{Clean, IsClean, EachIsClean, reaches_clean, allows_local}

-- the side's variable, on a pattern, under rigid heads and abstractions alone
mutual
  pub data Occurs (s : Side) : ℕ → Term → Type 0 where
    occurs_here : {k : ℕ} {t : Term} → (b : List ℕ) → ReducesTo t (pattern_term (pattern s.id s.level b)) → are_distinct b ≡ true → are_above s.level b ≡ true → Occurs s k t
    occurs_under : {k : ℕ} {t : Term} → (b : Term) → ReducesTo t (abs b) → Occurs s (suc k) (substitute (atom (eigen (suc k))) b) → Occurs s k t
    occurs_in : {k : ℕ} {t : Term} → (h : Term) → (ts : List Term) → ReducesTo t (apply h ts) → IsRigid h → OccursAny s k ts → Occurs s k t

  pub data OccursAny (s : Side) : ℕ → List Term → Type 0 where
    occurs_first : {k : ℕ} {t : Term} {ts : List Term} → Occurs s k t → OccursAny s k (t ∷ ts)
    occurs_later : {k : ℕ} {t : Term} {ts : List Term} → OccursAny s k ts → OccursAny s k (t ∷ ts)

map_above : (d : Bool) (o : Option Scanned) (u : ℕ) → option_map (above d) o ≡ Some (broken u) → (v : ℕ) × (o ≡ Some (broken v))
map_above d None u e = absurd (cc)
map_above d (Some (broken n)) u e = (n, refl)
map_above d (Some (whole n f qs)) u e = absurd (cc)

map_beside : (m : ℕ) (d : Bool) (ps : List Pattern) (o : Option Scanned) (u : ℕ) → option_map (beside m d ps) o ≡ Some (broken u) → (v : ℕ) × (o ≡ Some (broken v))
map_beside m d ps None u e = absurd (cc)
map_beside m d ps (Some (broken n)) u e = (n, refl)
map_beside m d ps (Some (whole n f qs)) u e = absurd (cc)

clean_head : (s : Side) (h : Term) → IsRigid h → Within (Clean s) 0 h → allows_head s h ≡ true
clean_head s (index i) r w = refl
clean_head s (atom (logic x l)) r w = absurd r
clean_head s (atom (constant c ts)) r w = refl
clean_head s (atom (integer z)) r w = refl
clean_head s (atom (text t)) r w = refl
clean_head s (atom (eigen k)) r w = w
clean_head s (atom (param i t)) r w = refl
clean_head s (abs b) r w = absurd r
clean_head s (app t u) r w = absurd r

or_no : (a b : Bool) → (a || b) ≡ false → (a ≡ false) × (b ≡ false)
or_no true b h = absurd (cc)
or_no false b h = (refl, h)

abbrev Tells : Side → (ℕ → ℕ → Term) → ℕ → Type 0
Tells s σ n = (next : ℕ) (inside : Bool) (k : ℕ) (t : Term) (u : ℕ) → Within (Seen next s.pair k) 0 t → s.pair ≤ k → (inside ≡ false → IsClean s (close σ t)) → scan n s inside k t ≡ Some (broken u) → (inside ≡ false) × Occurs s k t

abbrev TellsAll : Side → (ℕ → ℕ → Term) → ℕ → Type 0
TellsAll s σ n = (next : ℕ) (inside : Bool) (k : ℕ) (ts : List Term) (u : ℕ) → WithinAll (Seen next s.pair k) ts → s.pair ≤ k → (inside ≡ false → EachIsClean s (close_all σ ts)) → scan_all n s inside k ts ≡ Some (broken u) → (inside ≡ false) × OccursAny s k ts

-- a broken pattern is the variable's own
pattern_broken : (s : Side) (inside : Bool) (k y m : ℕ) (b : List ℕ) (t : Term) (u : ℕ) → ReducesTo t (pattern_term (pattern y m b)) → are_distinct b ≡ true → are_above m b ≡ true → scanned_pattern s inside y m b ≡ broken u → (inside ≡ false) × Occurs s k t
pattern_broken s true k y m b t u c d a e = absurd (cc)
pattern_broken s false k y m b t u c d a e = elim (is_side s y m) as (λ z. is_side s y m ≡ z → (if z then broken 1 else whole 1 false (pattern y m b ∷ [])) ≡ broken u → (false ≡ false) × Occurs s k t) [
  | true ↦ λ p q.
      let r = both (nat_eq y s.id) (nat_eq m s.level) p in
      let e₁ = same_number y s.id r.0 in
      let e₂ = same_number m s.level r.1 in
      (refl, occurs_here b (transport (ReducesTo t) (λ i. pattern_term (pattern (e₁ i) (e₂ i) b)) c) d (transport (λ z. are_above z b ≡ true) e₂ a))
  | false ↦ λ p q. absurd (cc)
] refl e

rigid_clean : (s : Side) (σ : ℕ → ℕ → Term) (t h : Term) (ts : List Term) → IsRigid h → Converts t (apply h ts) → IsClean s (close σ t) → (allows_head s h ≡ true) × EachIsClean s (close_all σ ts)
rigid_clean s σ t h ts r e z =
    let q = rigid_reaches (Clean s) h (close_all σ ts) z.to r (converts_on (converts_sym (close_seen_rigid σ t h ts r e)) z.converts) z.within in
    (clean_head s h r q.0, reaches_clean s q.1)

by_look : (s : Side) (σ : ℕ → ℕ → Term) (n : ℕ) → Tells s σ n → TellsAll s σ n → (next : ℕ) (inside : Bool) (k : ℕ) (t : Term) (u : ℕ) (v : Look) → s.pair ≤ k → (inside ≡ false → IsClean s (close σ t)) → ReducesTo t (seen v) → Within (Seen next s.pair k) 0 (seen v) → IsFirm v → (elim v [
  | an_abs b ↦ scan n s inside (suc k) (substitute (atom (eigen (suc k))) b)
  | rigid h ts ↦ elim (allows_head s h || inside) [
    | true ↦ option_map (above (not (allows_head s h))) (scan_all n s inside k ts)
    | false ↦ Some (broken 1)
  ]
  | flexible y m ts ↦ option_and_then (λ o. elim o [
    | Some b ↦ Some (scanned_pattern s inside y m b)
    | None ↦ option_map (above (is_side s y m || nat_lt s.level m)) (scan_all n s true k ts)
  ]) (pattern_of n m ts)
]) ≡ Some (broken u) → (inside ≡ false) × Occurs s k t
by_look s σ n one all next inside k t u (an_abs b) l z r v f e =
    let o = open_converts (suc k) t b r in
    let i = one next inside (suc k) (substitute (atom (eigen (suc k))) b) u (open_seen next s.pair k b v) (omega arith)
    (λ p. let c = z p in record {
      to = app c.to (atom (eigen (suc k)));
      converts = converts_on (converts_sym (converts_fill (at_variables σ) o)) (converts_app c.converts (same (atom (eigen (suc k)))));
      within = (c.within, allows_local s k l);
    }) e in
    (i.0, occurs_under b r i.1)
by_look s σ n one all next inside k t u (rigid h ts) l z r v f e = elim (allows_head s h || inside) as
    (λ x. (allows_head s h || inside) ≡ x → (elim x [
      | true ↦ option_map (above (not (allows_head s h))) (scan_all n s inside k ts)
      | false ↦ Some
          (broken 1)
    ]) ≡ Some (broken u) → (inside ≡ false) × Occurs s k t) [
      | true ↦ λ p q.
          let m = map_above (not (allows_head s h)) (scan_all n s inside k ts) u q in
          let i = all next inside k ts m.0 (within_apply (Seen next s.pair k) ts h v).1 l (λ w. (rigid_clean s σ t h ts f (converts_reduces r) (z w)).1) m.1 in
          (i.0, occurs_in h ts r f i.1)
      | false ↦ λ p q.
          let a = or_no (allows_head s h) inside p in
          let c = (rigid_clean s σ t h ts f (converts_reduces r) (z a.1)).0 in
          absurd (cc)
    ] refl e
by_look s σ n one all next inside k t u (flexible y m ts) l z r v f e = option_and_then_some _ (pattern_of n m ts) (broken u) e λ o p q.
    elim o as (λ o. pattern_of n m ts ≡ Some o → (elim o [
      | Some b ↦ Some (scanned_pattern s inside y m b)
      | None ↦ option_map (above (is_side s y m || nat_lt s.level m)) (scan_all n s true k ts)
    ]) ≡ Some (broken u) → (inside ≡ false) × Occurs s k t) [
      | Some b ↦ λ i j.
          let w = pattern_tells n m ts b i in
          let c : scanned_pattern s inside y m b ≡ broken u = cc in
          pattern_broken s inside k y m b t u (reduces_on r (reduces_spine ts b w.arguments (atom (logic y m)) (atom (logic y m)) (done (atom (logic y m))))) w.distinct w.above c
      | None ↦ λ i j.
          let x = map_above (is_side s y m || nat_lt s.level m) (scan_all n s true k ts) u j in
          let c = all next true k ts x.0 (within_apply (Seen next s.pair k) ts (atom (logic y m)) v).1 l (λ w. absurd (cc)) x.1 in
          let d : true ≡ false = c.0 in
          absurd (cc)
    ] p q

by_first : (s : Side) (σ : ℕ → ℕ → Term) (n : ℕ) → Tells s σ n → TellsAll s σ n → (next : ℕ) (inside : Bool) (k : ℕ) (t : Term) (ts : List Term)
    (u : ℕ) → Within (Seen next s.pair k) 0 t → WithinAll (Seen next s.pair k) ts → s.pair ≤ k →
    (inside ≡ false → EachIsClean s (close_all σ (t ∷ ts))) → (r : Scanned) → scan n s inside k t ≡ Some r → (elim r [
      | broken u ↦ Some (broken u)
      | whole u d ps ↦ option_map (beside u d ps) (scan_all n s inside k ts)
    ]) ≡ Some (broken u) → (inside ≡ false) × OccursAny s k (t ∷ ts)
by_first s σ n one all next inside k t ts u w v l z (broken m) p e = let i = one next inside k t m w l (λ q. (z q).0) p in (i.0, occurs_first i.1)
by_first s σ n one all next inside k t ts u w v l z (whole m d ps) p e =
    let x = map_beside m d ps (scan_all n s inside k ts) u e in
    let i = all next inside k ts x.0 v l (λ q. (z q).1) x.1 in
    (i.0, occurs_later i.1)

mutual
  pub break_tells : (s : Side) (σ : ℕ → ℕ → Term) (n : ℕ) → Tells s σ n
  break_tells s σ zero next inside k t u w l z e = absurd (cc)
  break_tells s σ (suc n) next inside k t u w l z e = option_and_then_some _ (look n t) (broken u) e λ v p q.
      let r = look_reduces n t v p in
      by_look s σ n (break_tells s σ n) (break_all_tells s σ n) next inside k t u v l z r (within_reduces (Seen next s.pair k) 0 r w) (look_firm n t v p) q

  pub break_all_tells : (s : Side) (σ : ℕ → ℕ → Term) (n : ℕ) → TellsAll s σ n
  break_all_tells s σ zero next inside k ts u w l z e = absurd (cc)
  break_all_tells s σ (suc n) next inside k [] u w l z e = absurd (cc)
  break_all_tells s σ (suc n) next inside k (t ∷ ts) u w l z e = option_and_then_some _ (scan n s inside k t) (broken u) e λ r p q.
      by_first s σ n (break_tells s σ n) (break_all_tells s σ n) next inside k t ts u w.0 w.1 l z r p q
