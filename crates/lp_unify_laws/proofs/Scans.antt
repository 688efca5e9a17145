-- What a scan that neither fails nor delays has seen.
use Rattle.std.proofs.Common.{◌≡◌, ℕ, zero, suc, ◌<◌, ◌≤◌, List, [], ◌∷◌, ◌++◌, refl, subst as transport, arith, Bool, true, false, if◌then◌else◌, not, ◌||◌, Option, Some, None}
use Rattle.std.specs.Prelude.{nat_lt, option_map, option_and_then}
use Rattle.std.proofs.lemmas.Option.{option_and_then_some}
use Rattle.lp_calculus.specs.Term.{Term, atom, abs, app, apply, Atom, substitute, constant, integer, text, eigen, logic, param}
use Rattle.lp_calculus.specs.Convert.{Converts, same, ReducesTo, done, then_step, here, in_head, in_argument, by_beta, ConvertAll, convert_more}
use Rattle.lp_calculus.proofs.BetaEta.{conversion_meets}
use Rattle.lp_calculus.specs.Fill.{Within}
use Rattle.lp_model.specs.Patterns.{eigens}
use Rattle.lp_model.specs.Look.{Look, an_abs, rigid, flexible, look, pattern_of, are_distinct, are_above}
use Rattle.lp_model.specs.Scan.{Side, is_side, allow, allows_head, Scanned, broken, whole, above, beside, scanned_pattern, scan, scan_all, Pattern, pattern, pattern_term}
use Rattle.lp_model.specs.Rule.{open_with}
use Rattle.lp_calculus.proofs.Fills.{within_more}
use Rattle.lp_calculus.proofs.Steps.{Step, converts_on, converts_reduces, converts_step, converts_app, within_step, within_reduces}
use Rattle.lp_unify_laws.proofs.Looks.{seen, look_reduces, pattern_tells}
use Rattle.lp_unify_laws.proofs.Firm.{IsFirm, look_firm}
use Rattle.lp_calculus.proofs.Rigid.{IsRigid, reduces_on}
use Rattle.lp_unify_laws.proofs.Closings.{WithinAll, within_apply, apply_within}

-- what may stand where a scan is: eigenconstants up to k, variables of levels up to p with numbers below next
abbrev pub Seen : (next p k : ℕ) → Atom → Type 0
Seen next p k (eigen j) = j ≤ k
Seen next p k (logic x l) = (x < next) × (l ≤ p)
Seen next p k (constant c ts) = Unit {0}
Seen next p k (integer z) = Unit {0}
Seen next p k (text s) = Unit {0}
Seen next p k (param i t) = Unit {0}

pub seen_more : (next p k : ℕ) (a : Atom) → Seen next p k a → Seen next p (suc k) a
seen_more next p k (eigen j) h = let q : j ≤ k = h in let r : j ≤ suc k = omega arith in r
seen_more next p k (logic x l) h = h
seen_more next p k (constant c ts) h = tt
seen_more next p k (integer z) h = tt
seen_more next p k (text s) h = tt
seen_more next p k (param i t) h = tt

abbrev pub pattern' : ℕ → ℕ → List ℕ → Term
pattern' y m b = pattern_term (pattern y m b)

-- a pattern of another variable
pub record IsOther (s : Side) (next k : ℕ) (y m : ℕ) (b : List ℕ) : Type 0 where
  pub distinct : are_distinct b ≡ true
  pub above : are_above m b ≡ true
  pub other : is_side s y m ≡ false
  pub within : Within (Seen next s.pair k) 0 (pattern' y m b)

mutual
  pub data Scans (s : Side) (next : ℕ) : Bool → ℕ → Term → List Pattern → Type 0 where
    scans_abs : {inside : Bool} {k : ℕ} {t : Term} {ps : List Pattern} → (b : Term) → Within (Seen next s.pair k) 0 t →
        ReducesTo t (abs b) → Scans s next inside (suc k) (substitute (atom (eigen (suc k))) b) ps → Scans s next inside k t ps
    scans_rigid : {inside : Bool} {k : ℕ} {t : Term} {ps : List Pattern} → (h : Term) → (ts : List Term) → Within (Seen next s.pair k) 0 h →
        ReducesTo t (apply h ts) → IsRigid h → allows_head s h ≡ true → ScansAll s next inside k ts ps → Scans s next inside k t ps
    scans_pattern : {inside : Bool} {k : ℕ} {t : Term} → (y m : ℕ) → (b : List ℕ) →
        ReducesTo t (pattern' y m b) → IsOther s next k y m b → (inside ≡ true → (nat_lt s.level m ≡ false) × (allow s b ≡ true)) →
        Scans s next inside k t (pattern y m b ∷ [])
    scans_flexible : {inside : Bool} {k : ℕ} {t : Term} {ps : List Pattern} → (y m : ℕ) → (ts : List Term) →
        ReducesTo t (apply (atom (logic y m)) ts) → Within (Seen next s.pair k) 0 (atom (logic y m)) → is_side s y m ≡ false → nat_lt s.level m ≡ false → ScansAll s next true k ts ps → Scans s next inside k t ps

  pub data ScansAll (s : Side) (next : ℕ) : Bool → ℕ → List Term → List Pattern → Type 0 where
    scans_none : {inside : Bool} {k : ℕ} → ScansAll s next inside k [] []
    scans_more : {inside : Bool} {k : ℕ} {t : Term} {ts : List Term} {rs : List Pattern} → (ps qs : List Pattern) → rs ≡ ps ++ qs →
        Scans s next inside k t ps → ScansAll s next inside k ts qs → ScansAll s next inside k (t ∷ ts) rs

-- what comes to an eigenconstant reduces to it
eigen_stays : (k : ℕ) {t s : Term} → ReducesTo t s → t ≡ atom (eigen k) → s ≡ atom (eigen k)
eigen_stays k (done t) e = e
eigen_stays k (then_step {t = t} {s = r} p ps) e = absurd (no_step (transport (λ x. Step x r) e p))
  where
    no_step : {r : Term} → Step (atom (eigen k)) r → ⊥
    no_step (here x) = elim x [ ]

pub reduces_to_eigen : (t : Term) (k : ℕ) → Converts t (atom (eigen k)) → ReducesTo t (atom (eigen k))
reduces_to_eigen t k c = let m = conversion_meets c in transport (ReducesTo t) (eigen_stays k m.2 refl) m.1

-- reduction of a head and its arguments
pub reduces_app : (t : Term) {u v : Term} → ReducesTo u v → ReducesTo (app t u) (app t v)
reduces_app t (done u) = done (app t u)
reduces_app t (then_step p ps) = then_step (in_argument t p) (reduces_app t ps)

pub reduces_head : (u : Term) {t v : Term} → ReducesTo t v → ReducesTo (app t u) (app v u)
reduces_head u (done t) = done (app t u)
reduces_head u (then_step p ps) = then_step (in_head u p) (reduces_head u ps)

pub reduces_spine : (ts : List Term) (b : List ℕ) → ConvertAll ts (eigens b) → (h g : Term) → ReducesTo h g → ReducesTo (apply h ts) (apply g (eigens b))
reduces_spine [] [] c h g r = r
reduces_spine [] (k ∷ b) c h g r = elim c [ ]
reduces_spine (t ∷ ts) [] c h g r = elim c [ ]
reduces_spine (t ∷ ts) (k ∷ b) (convert_more d c) h g r = reduces_spine ts b c (app h t) (app g (atom (eigen k))) (reduces_on (reduces_head t r) (reduces_app g (reduces_to_eigen t k d)))

eigens_within : (P : Atom → Type 0) (ts : List Term) (b : List ℕ) → ConvertAll ts (eigens b) → WithinAll P ts → WithinAll P (eigens b)
eigens_within P [] [] c w = tt
eigens_within P [] (k ∷ b) c w = absurd (elim c [ ])
eigens_within P (t ∷ ts) [] c w = tt
eigens_within P (t ∷ ts) (k ∷ b) (convert_more h c) w = (within_reduces P 0 (reduces_to_eigen t k h) w.0, eigens_within P ts b c w.1)

-- what the results tell
or_false : (a b : Bool) → (a || b) ≡ false → (a ≡ false) × (b ≡ false)
or_false true b h = absurd (cc)
or_false false b h = (refl, h)

not_false : (a : Bool) → not a ≡ false → a ≡ true
not_false true h = refl
not_false false h = absurd (cc)

pub above_whole : (d : Bool) (o : Option Scanned) (u : ℕ) (ps : List Pattern) → option_map (above d) o ≡ Some (whole u false ps) → (v : ℕ) × (d ≡ false) × (o ≡ Some (whole v false ps))
above_whole d None u ps e = absurd (cc)
above_whole d (Some (broken n)) u ps e = absurd (cc)
above_whole d (Some (whole n f qs)) u ps e =
    let q : (d || f) ≡ false = cc in
    let r : qs ≡ ps = cc in
    let z = or_false d f q in
    (n, z.0, (λ i. Some (whole n (z.1 i) (r i))))

pub beside_whole : (m : ℕ) (d : Bool) (ps : List Pattern) (o : Option Scanned) (u : ℕ) (rs : List Pattern) → option_map (beside m d ps) o ≡ Some (whole u false rs) → (v : ℕ) × (qs : List Pattern) × (d ≡ false) × (o ≡ Some (whole v false qs)) × (rs ≡ ps ++ qs)
beside_whole m d ps None u rs e = absurd (cc)
beside_whole m d ps (Some (broken n)) u rs e = absurd (cc)
beside_whole m d ps (Some (whole n f qs)) u rs e =
    let q : (d || f) ≡ false = cc in
    let r : rs ≡ ps ++ qs = cc in
    let z = or_false d f q in
    (n, qs, z.0, (λ i. Some (whole n (z.1 i) qs)), r)

pattern_whole : (s : Side) (inside : Bool) (y m : ℕ) (b : List ℕ) (u : ℕ) (ps : List Pattern) → scanned_pattern s inside y m b ≡ whole u false ps → (is_side s y m ≡ false) × (pattern y m b ∷ [] ≡ ps) × (inside ≡ true → (nat_lt s.level m ≡ false) × (allow s b ≡ true))
pattern_whole s true y m b u ps e =
    let q : (is_side s y m || nat_lt s.level m || not (allow s b)) ≡ false = cc in
    let r : pattern y m b ∷ [] ≡ ps = cc in
    let z = or_false (is_side s y m || nat_lt s.level m) (not (allow s b)) q in
    let z' = or_false (is_side s y m) (nat_lt s.level m) z.0 in
    (z'.0, r, λ i. (z'.1, not_false (allow s b) z.1))
pattern_whole s false y m b u ps e = elim (is_side s y m) as (λ x. is_side s y m ≡ x → (if x then broken 1 else whole 1 false (pattern y m b ∷ [])) ≡ whole u false ps → (is_side s y m ≡ false) × (pattern y m b ∷ [] ≡ ps) × (false ≡ true → (nat_lt s.level m ≡ false) × (allow s b ≡ true))) [
  | true ↦ λ p q. absurd (cc)
  | false ↦ λ p q. let r : pattern y m b ∷ [] ≡ ps = cc in (p, r, λ i. absurd (cc))
] refl e

pub open_converts : (k : ℕ) (t b : Term) → ReducesTo t (abs b) → Converts (open_with k t) (substitute (atom (eigen k)) b)
open_converts k t b r = converts_on (converts_app (converts_reduces r) (same (atom (eigen k)))) (converts_step (here (by_beta b (atom (eigen k)))))

pub open_seen : (next p k : ℕ) (b : Term) → Within (Seen next p k) 0 (abs b) → Within (Seen next p (suc k)) 0 (substitute (atom (eigen (suc k))) b)
open_seen next p k b w =
    let q : suc k ≤ suc k = omega arith in
    within_step (Seen next p (suc k)) 0 (here (by_beta b (atom (eigen (suc k))))) (within_more (Seen next p k) (Seen next p (suc k)) 0 0 (seen_more next p k) (omega arith) (abs b) w, q)

abbrev Tells : ℕ → Type 0
Tells n = (s : Side) (next : ℕ) (inside : Bool) (k : ℕ) (t : Term) (u : ℕ) (ps : List Pattern) → Within (Seen next s.pair k) 0 t → scan n s inside k t ≡ Some (whole u false ps) → Scans s next inside k t ps

abbrev TellsAll : ℕ → Type 0
TellsAll n = (s : Side) (next : ℕ) (inside : Bool) (k : ℕ) (ts : List Term) (u : ℕ) (ps : List Pattern) → WithinAll (Seen next s.pair k) ts → scan_all n s inside k ts ≡ Some (whole u false ps) → ScansAll s next inside k ts ps

by_pattern : (n : ℕ) → TellsAll n → (s : Side) (next : ℕ) (inside : Bool) (k : ℕ) (t : Term) (u : ℕ) (ps : List Pattern) (y m : ℕ) (ts : List Term) →
    ReducesTo t (apply (atom (logic y m)) ts) → Within (Seen next s.pair k) 0 (atom (logic y m)) → WithinAll (Seen next s.pair k) ts →
    (o : Option (List ℕ)) → pattern_of n m ts ≡ Some o → (elim o [
      | Some b ↦ Some (scanned_pattern s inside y m b)
      | None ↦ option_map (above (is_side s y m || nat_lt s.level m)) (scan_all n s true k ts)
    ]) ≡ Some (whole u false ps) → Scans s next inside k t ps
by_pattern n all s next inside k t u ps y m ts r w v None p e =
    let z = above_whole (is_side s y m || nat_lt s.level m) (scan_all n s true k ts) u ps e in
    let d = or_false (is_side s y m) (nat_lt s.level m) z.1 in
    scans_flexible y m ts r w d.0 d.1 (all s next true k ts z.0 ps v z.2)
by_pattern n all s next inside k t u ps y m ts r w v (Some b) p e =
    let i = pattern_tells n m ts b p in
    let q : scanned_pattern s inside y m b ≡ whole u false ps = cc in
    let z = pattern_whole s inside y m b u ps q in
    transport (Scans s next inside k t) z.1 (scans_pattern y m b (reduces_on r (reduces_spine ts b i.arguments (atom (logic y m)) (atom (logic y m)) (done (atom (logic y m)))))
    (record { distinct = i.distinct; above = i.above; other = z.0; within = apply_within (Seen next s.pair k) (eigens b) (atom (logic y m)) w (eigens_within (Seen next s.pair k) ts b i.arguments v) }) z.2)

by_look : (n : ℕ) → Tells n → TellsAll n → (s : Side) (next : ℕ) (inside : Bool) (k : ℕ) (t : Term) (u : ℕ) (ps : List Pattern) (v : Look) → Within (Seen next s.pair k) 0 t → ReducesTo t (seen v) → Within (Seen next s.pair k) 0 (seen v) → IsFirm v → (elim v [
  | an_abs b ↦ scan n s inside (suc k) (substitute (atom (eigen (suc k))) b)
  | rigid h ts ↦ elim (allows_head s h || inside) [
    | true ↦ option_map (above (not (allows_head s h))) (scan_all n s inside k ts)
    | false ↦ Some (broken 1)
  ]
  | flexible y m ts ↦ option_and_then (λ o. elim o [
    | Some b ↦ Some (scanned_pattern s inside y m b)
    | None ↦ option_map (above (is_side s y m || nat_lt s.level m)) (scan_all n s true k ts)
  ]) (pattern_of n m ts)
]) ≡ Some (whole u false ps) → Scans s next inside k t ps
by_look n one all s next inside k t u ps (an_abs b) w r v f e =
    scans_abs b w r (one s next inside (suc k) (substitute (atom (eigen (suc k))) b) u ps (open_seen next s.pair k b v) e)
by_look n one all s next inside k t u ps (rigid h ts) w r v f e = elim (allows_head s h || inside) as (λ x. (elim x [ true ↦ option_map (above (not (allows_head s h))) (scan_all n s inside k ts) | false ↦ Some (broken 1) ]) ≡ Some (whole u false ps) → Scans s next inside k t ps) [
  | true ↦ λ q.
      let z = above_whole (not (allows_head s h)) (scan_all n s inside k ts) u ps q in
      let a = within_apply (Seen next s.pair k) ts h v in
      scans_rigid h ts a.0 r f (not_false (allows_head s h) z.1) (all s next inside k ts z.0 ps a.1 z.2)
  | false ↦ λ q. absurd (cc)
] e
by_look n one all s next inside k t u ps (flexible y m ts) w r v f e = option_and_then_some _ (pattern_of n m ts) (whole u false ps) e λ o p q.
    let a = within_apply (Seen next s.pair k) ts (atom (logic y m)) v in
    by_pattern n all s next inside k t u ps y m ts r a.0 a.1 o p q

by_first : (n : ℕ) → Tells n → TellsAll n → (s : Side) (next : ℕ) (inside : Bool) (k : ℕ) (t : Term) (ts : List Term) (u : ℕ) (rs : List Pattern) → Within (Seen next s.pair k) 0 t → WithinAll (Seen next s.pair k) ts → (r : Scanned) → scan n s inside k t ≡ Some r → (elim r [
  | broken u ↦ Some (broken u)
  | whole u d ps ↦ option_map (beside u d ps) (scan_all n s inside k ts)
]) ≡ Some (whole u false rs) → ScansAll s next inside k (t ∷ ts) rs
by_first n one all s next inside k t ts u rs w v (broken m) p e = absurd (cc)
by_first n one all s next inside k t ts u rs w v (whole m d ps) p e =
    let z = beside_whole m d ps (scan_all n s inside k ts) u rs e in
    scans_more ps z.1 z.4 (one s next inside k t m ps w (transport (λ x. scan n s inside k t ≡ Some (whole m x ps)) z.2 p)) (all s next inside k ts z.0 z.1 v z.3)

mutual
  pub scan_tells : (n : ℕ) → Tells n
  scan_tells zero s next inside k t u ps w e = absurd (cc)
  scan_tells (suc n) s next inside k t u ps w e = option_and_then_some _ (look n t) (whole u false ps) e λ v p q.
      let r = look_reduces n t v p in
      by_look n (scan_tells n) (scan_all_tells n) s next inside k t u ps v w r (within_reduces (Seen next s.pair k) 0 r w) (look_firm n t v p) q

  pub scan_all_tells : (n : ℕ) → TellsAll n
  scan_all_tells zero s next inside k ts u ps w e = absurd (cc)
  scan_all_tells (suc n) s next inside k [] u ps w e = let r : [] ≡ ps = cc in transport (ScansAll s next inside k []) r scans_none
  scan_all_tells (suc n) s next inside k (t ∷ ts) u rs w e = option_and_then_some _ (scan n s inside k t) (whole u false rs) e λ r p q.
      by_first n (scan_tells n) (scan_all_tells n) s next inside k t ts u rs w.0 w.1 r p q
