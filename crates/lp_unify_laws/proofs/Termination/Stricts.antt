-- Within a flexible term that is no pattern a scan that delays nothing has seen allowed atoms alone, up to conversion; and a term that converts to one
-- with allowed atoms alone is scanned so.
use Rattle.std.proofs.Common.{◌≡◌, ℕ, zero, suc, ◌+◌, ◌<◌, ◌≤◌, List, [], ◌∷◌, ◌++◌, ◌∙◌, refl, ap, subst as transport, arith, Bool, true, false, Option, Some, None, not, ◌||◌, if◌then◌else◌}
use Rattle.std.specs.Prelude.{option_map, option_and_then, nat_lt}
use Rattle.lp_calculus.specs.Term.{Term, Atom, index, atom, abs, app, apply, substitute, constant, integer, text, eigen, logic, param}
use Rattle.lp_calculus.specs.Convert.{Converts, same, here, by_beta, ConvertAll, convert_none, convert_more}
use Rattle.lp_calculus.specs.Fill.{Within, abstraction}
use Rattle.lp_calculus.proofs.Fills.{within_more}
use Rattle.lp_calculus.proofs.Steps.{converts_on, converts_sym, converts_app, converts_step, converts_reduces}
use Rattle.lp_calculus.proofs.Rigid.{IsRigid, EachReaches, reaches_none, reaches_more, rigid_reaches, head_reaches}
use Rattle.lp_model.specs.Patterns.{eigens}
use Rattle.lp_model.specs.Look.{Look, an_abs, rigid, flexible, look, pattern_of}
use Rattle.lp_model.specs.Scan.{Side, is_side, allows, allow, allows_head, Scanned, broken, whole, above, beside, Pattern, pattern, scanned_pattern, scan, scan_all}
use Rattle.lp_unify_laws.proofs.Sames.{both, both_on}
use Rattle.lp_unify_laws.proofs.Abstractions.{Not, abstraction_eta, converts_abstraction, within_abstraction}
use Rattle.lp_unify_laws.proofs.Closings.{WithinAll, apply_within}
use Rattle.lp_unify_laws.proofs.Looks.{seen, look_reduces, pattern_tells}
use Rattle.lp_unify_laws.proofs.Firm.{IsFirm, look_firm}
use Rattle.lp_unify_laws.proofs.Cleans.{allows_local}
use Rattle.lp_unify_laws.proofs.Scans.{Seen, Scans, ScansAll, scans_abs, scans_rigid, scans_pattern, scans_flexible, scans_none, scans_more, open_converts}
use Rattle.lp_unify_laws.proofs.NormalForms.Weights.{Weighs, body_weighs}
use Rattle.lp_unify_laws.proofs.Termination.Looks.{AllWeigh, LookWeighs, look_comes, pattern_comes}
use Rattle.lp_unify_laws.proofs.MoreSteps.Scans.{look_more, pattern_more, scan_more, scan_all_more}
use Rattle.lp_unify_laws.proofs.Termination.Scans.{scan_look, look_grows, of_pattern, behind}

-- what may stand where nothing is delayed
abbrev pub Allowed : Side → Atom → Type 0
Allowed s (eigen j) = allows s j ≡ true
Allowed s (logic x l) = (is_side s x l ≡ false) × (nat_lt s.level l ≡ false)
Allowed s (constant c ts) = Unit {0}
Allowed s (integer z) = Unit {0}
Allowed s (text t) = Unit {0}
Allowed s (param i t) = Unit {0}

pub record IsStrict (s : Side) (t : Term) : Type 0 where
  pub to : Term
  pub converts : Converts t to
  pub within : Within (Allowed s) 0 to

abbrev pub AllStrict : Side → List Term → Type 0
AllStrict s [] = Unit {0}
AllStrict s (t ∷ ts) = IsStrict s t × AllStrict s ts

pub strict_like : {s : Side} {t u : Term} → Converts u t → IsStrict s t → IsStrict s u
strict_like c h = record { to = h.to; converts = converts_on c h.converts; within = h.within }

pub reaches_strict : (s : Side) {ts : List Term} → EachReaches (Allowed s) ts → AllStrict s ts
reaches_strict s reaches_none = tt
reaches_strict s (reaches_more u r w all) = (record { to = u; converts = converts_reduces r; within = w }, reaches_strict s all)

pub strict_apply : (s : Side) (h : Term) → IsStrict s h → (ts : List Term) → AllStrict s ts → IsStrict s (apply h ts)
strict_apply s h k [] a = k
strict_apply s h k (t ∷ ts) a = strict_apply s (app h t) (record { to = app k.to a.0.to; converts = converts_app k.converts a.0.converts; within = (k.within, a.0.within) }) ts a.1

pub strict_opens : (s : Side) (k : ℕ) (t : Term) → s.pair ≤ k → IsStrict s t → IsStrict s (app t (atom (eigen (suc k))))
strict_opens s k t l h = record { to = app h.to (atom (eigen (suc k))); converts = converts_app h.converts (same (atom (eigen (suc k)))); within = (h.within, allows_local s k l) }

pub strict_closes : (s : Side) (c : ℕ) (t : Term) → Within (Not c) 0 t → IsStrict s (app t (atom (eigen c))) → IsStrict s t
strict_closes s c t w h = record {
  to = abstraction c h.to;
  converts = converts_on (converts_sym (abstraction_eta c t w)) (converts_abstraction c h.converts);
  within = within_abstraction (Allowed s) (Allowed s) c (λ a p n. p) h.to h.within;
}

pub seen_not : (next p k : ℕ) (a : Atom) → Seen next p k a → Not (suc k) a
seen_not next p k (eigen j) h = λ e. omega arith
seen_not next p k (logic x l) h = tt
seen_not next p k (constant c ts) h = tt
seen_not next p k (integer z) h = tt
seen_not next p k (text s) h = tt
seen_not next p k (param i t) h = tt

rigid_allowed : (s : Side) (next p k : ℕ) (h : Term) → IsRigid h → allows_head s h ≡ true → Within (Seen next p k) 0 h → Within (Allowed s) 0 h
rigid_allowed s next p k (index i) r e w = w
rigid_allowed s next p k (atom (eigen j)) r e w = e
rigid_allowed s next p k (atom (constant c ts)) r e w = tt
rigid_allowed s next p k (atom (integer z)) r e w = tt
rigid_allowed s next p k (atom (text t)) r e w = tt
rigid_allowed s next p k (atom (param i t)) r e w = tt
rigid_allowed s next p k (atom (logic x l)) r e w = absurd r
rigid_allowed s next p k (abs b) r e w = absurd r
rigid_allowed s next p k (app f u) r e w = absurd r

pub allowed_all : (s : Side) (b : List ℕ) → allow s b ≡ true → WithinAll (Allowed s) (eigens b)
allowed_all s [] h = tt
allowed_all s (k ∷ b) h = let r = both (allows s k) (allow s b) h in (r.0, allowed_all s b r.1)

mutual
  pub scans_strict : (s : Side) (next : ℕ) {inside : Bool} {k : ℕ} {t : Term} {ps : List Pattern} → Scans s next inside k t ps → inside ≡ true → s.pair ≤ k → IsStrict s t
  scans_strict s next (scans_abs {k = k} {t = t} b w r d) i l =
      strict_closes s (suc k) t (within_more (Seen next s.pair k) (Not (suc k)) 0 0 (seen_not next s.pair k) (omega arith) t w) (strict_like (open_converts (suc k) t b r) (scans_strict s next d i (omega arith)))
  scans_strict s next (scans_rigid {k = k} h ts w r g a d) i l =
      strict_like (converts_reduces r) (strict_apply s h (record { to = h; converts = same h; within = rigid_allowed s next s.pair k h g a w }) ts (all_strict s next d i l))
  scans_strict s next (scans_pattern y m b r o f) i l = let g = f i in
      strict_like (converts_reduces r) (record { to = apply (atom (logic y m)) (eigens b); converts = same (apply (atom (logic y m)) (eigens b)); within = apply_within (Allowed s) (eigens b) (atom (logic y m)) (o.other, g.0) (allowed_all s b g.1) })
  scans_strict s next (scans_flexible y m ts r w o f d) i l =
      strict_like (converts_reduces r) (strict_apply s (atom (logic y m)) (record { to = atom (logic y m); converts = same (atom (logic y m)); within = (o, f) }) ts (all_strict s next d refl l))

  pub all_strict : (s : Side) (next : ℕ) {inside : Bool} {k : ℕ} {ts : List Term} {ps : List Pattern} → ScansAll s next inside k ts ps → inside ≡ true → s.pair ≤ k → AllStrict s ts
  all_strict s next scans_none i l = tt
  all_strict s next (scans_more ps qs e d ds) i l = (scans_strict s next d i l, all_strict s next ds i l)

-- scans that neither fail nor delay
abbrev pub Good : Side → Bool → ℕ → Term → Type 0
Good s inside k t = (n : ℕ) × (u : ℕ) × (ps : List Pattern) × (scan n s inside k t ≡ Some (whole u false ps))

abbrev pub GoodAll : Side → Bool → ℕ → List Term → Type 0
GoodAll s inside k ts = (n : ℕ) × (u : ℕ) × (ps : List Pattern) × (scan_all n s inside k ts ≡ Some (whole u false ps))

abbrev pub GoodLook : Side → Bool → ℕ → Look → Type 0
GoodLook s inside k v = (n : ℕ) × (u : ℕ) × (ps : List Pattern) × (scan_look s inside k n v ≡ Some (whole u false ps))

pub good_none : (s : Side) (inside : Bool) (k : ℕ) → GoodAll s inside k []
good_none s inside k = (1, 0, [], refl)

pub good_more : (s : Side) (inside : Bool) (k : ℕ) (t : Term) (ts : List Term) → Good s inside k t → GoodAll s inside k ts → GoodAll s inside k (t ∷ ts)
good_more s inside k t ts (n, u, ps, e) (m, v, qs, i) =
    let j = n + m in
    let a = scan_more n j (omega arith) s inside k t (whole u false ps) e in
    let b = scan_all_more m j (omega arith) s inside k ts (whole v false qs) i in
    (suc j, u + v, ps ++ qs, ap (option_and_then (behind s inside k ts j)) a ∙ ap (option_map (beside u false ps)) b)

pub good_seen : (s : Side) (inside : Bool) (k : ℕ) (t : Term) (a : ℕ) (v : Look) → look a t ≡ Some v → GoodLook s inside k v → Good s inside k t
good_seen s inside k t a v e (n, u, ps, i) =
    let j = a + n in
    let x = look_more a j (omega arith) t v e in
    let y = look_grows s inside k v n j (omega arith) (whole u false ps) i in
    (suc j, u, ps, ap (option_and_then (scan_look s inside k j)) x ∙ y)

pub good_rigid : (s : Side) (inside : Bool) (k : ℕ) (h : Term) (ts : List Term) → allows_head s h ≡ true → GoodAll s inside k ts → GoodLook s inside k (rigid h ts)
good_rigid s inside k h ts e (n, u, ps, i) =
    (n, suc u, ps, ap (λ b. elim (b || inside) as (λ x. Option Scanned) [ true ↦ option_map (above (not b)) (scan_all n s inside k ts) | false ↦ Some (broken 1) ]) e ∙ ap (option_map (above false)) i)

pub good_flexible : (s : Side) (inside : Bool) (k y m : ℕ) (ts : List Term) → is_side s y m ≡ false → nat_lt s.level m ≡ false → (j : ℕ) → pattern_of j m ts ≡ Some None → GoodAll s true k ts → GoodLook s inside k (flexible y m ts)
good_flexible s inside k y m ts e f j p (n, u, ps, i) =
    let q = j + n in
    let a = pattern_more j q (omega arith) m ts None p in
    let b = scan_all_more n q (omega arith) s true k ts (whole u false ps) i in
    (q, suc u, ps, ap (option_and_then (of_pattern s inside k y m ts q)) a ∙ (λ z. option_map (above (e z || nat_lt s.level m)) (scan_all q s true k ts)) ∙ (λ z. option_map (above (f z)) (scan_all q s true k ts)) ∙ ap (option_map (above false)) b)

pub good_pattern : (s : Side) (inside : Bool) (k y m : ℕ) (ts : List Term) (b : List ℕ) (j : ℕ) → pattern_of j m ts ≡ Some (Some b) → scanned_pattern s inside y m b ≡ whole 1 false (pattern y m b ∷ []) → GoodLook s inside k (flexible y m ts)
good_pattern s inside k y m ts b j p e = (j, 1, pattern y m b ∷ [], ap (option_and_then (of_pattern s inside k y m ts j)) p ∙ ap Some e)

pub outside_pattern : (s : Side) (y m : ℕ) (b : List ℕ) → is_side s y m ≡ false → scanned_pattern s false y m b ≡ whole 1 false (pattern y m b ∷ [])
outside_pattern s y m b e = ap (λ c. if c then broken 1 else whole 1 false (pattern y m b ∷ [])) e

pattern_inside : (s : Side) (inside : Bool) (y m : ℕ) (b : List ℕ) → is_side s y m ≡ false → nat_lt s.level m ≡ false → allow s b ≡ true → scanned_pattern s inside y m b ≡ whole 1 false (pattern y m b ∷ [])
pattern_inside s false y m b e f g = outside_pattern s y m b e
pattern_inside s true y m b e f g = (λ z. whole 1 (e z || nat_lt s.level m || not (allow s b)) (pattern y m b ∷ [])) ∙ (λ z. whole 1 (f z || not (g z)) (pattern y m b ∷ []))

-- a term with allowed atoms alone is scanned so
allowed_head : (s : Side) (h : Term) → IsRigid h → Within (Allowed s) 0 h → allows_head s h ≡ true
allowed_head s (index i) r w = refl
allowed_head s (atom (eigen j)) r w = w
allowed_head s (atom (constant c ts)) r w = refl
allowed_head s (atom (integer z)) r w = refl
allowed_head s (atom (text t)) r w = refl
allowed_head s (atom (param i t)) r w = refl
allowed_head s (atom (logic x l)) r w = absurd r
allowed_head s (abs b) r w = absurd r
allowed_head s (app f u) r w = absurd r

pub rigid_strict : (s : Side) (h : Term) (ts : List Term) → IsRigid h → IsStrict s (apply h ts) → (allows_head s h ≡ true) × AllStrict s ts
rigid_strict s h ts r z = let q = rigid_reaches (Allowed s) h ts z.to r z.converts z.within in (allowed_head s h r q.0, reaches_strict s q.1)

pub flexible_strict : (s : Side) (y m : ℕ) (ts : List Term) → IsStrict s (apply (atom (logic y m)) ts) → ((is_side s y m ≡ false) × (nat_lt s.level m ≡ false)) × AllStrict s ts
flexible_strict s y m ts z = let q = head_reaches (Allowed s) (atom (logic y m)) ts z.to tt z.converts z.within in (q.0, reaches_strict s q.1)

eigens_strict : (s : Side) (b : List ℕ) {ts us : List Term} → ConvertAll ts us → us ≡ eigens b → AllStrict s ts → allow s b ≡ true
eigens_strict s [] c e h = refl
eigens_strict s (k ∷ b) convert_none e h = absurd (cc)
eigens_strict s (k ∷ b) (convert_more {t = t} {u = u} c cs) e h =
    let q : u ≡ atom (eigen k) = cc in
    let r = rigid_reaches (Allowed s) (atom (eigen k)) [] h.0.to tt (converts_on (converts_sym (transport (Converts t) q c)) h.0.converts) h.0.within in
    both_on (allows s k) (allow s b) r.0 (eigens_strict s b cs (cc) h.1)

abbrev StrictsBelow : ℕ → Type 0
StrictsBelow N = (s : Side) (inside : Bool) (k : ℕ) (t : Term) (w : ℕ) → s.pair ≤ k → Weighs t w → w < N → IsStrict s t → Good s inside k t

strict_all : (N : ℕ) → StrictsBelow N → (s : Side) (inside : Bool) (k : ℕ) (ts : List Term) (w : ℕ) → s.pair ≤ k → AllWeigh ts w → w ≤ N → AllStrict s ts → GoodAll s inside k ts
strict_all N ι s inside k [] w p h l a = good_none s inside k
strict_all N ι s inside k (t ∷ ts) w p h l a = let i = h.2.0 in
    good_more s inside k t ts (ι s inside k t h.0 p h.2.1.0 (omega arith) a.0) (strict_all N ι s inside k ts h.1 p h.2.1.1 (omega arith) a.1)

strict_look : (N : ℕ) → StrictsBelow N → (s : Side) (inside : Bool) (k : ℕ) (v : Look) (w : ℕ) → s.pair ≤ k → IsFirm v → LookWeighs v w → w ≤ N → IsStrict s (seen v) → GoodLook s inside k v
strict_look N ι s inside k (an_abs b) w p f h l z = let i = h.1.0 in
    ι s inside (suc k) (substitute (atom (eigen (suc k))) b) h.0 (omega arith) (body_weighs (eigen (suc k)) b h.1.1) (omega arith)
    (strict_like (converts_sym (converts_step (here (by_beta b (atom (eigen (suc k))))))) (strict_opens s k (abs b) p z))
strict_look N ι s inside k (rigid g ts) w p f h l z = let q = rigid_strict s g ts f z in good_rigid s inside k g ts q.0 (strict_all N ι s inside k ts w p h l q.1)
strict_look N ι s inside k (flexible y m ts) w p f h l z =
    let q = flexible_strict s y m ts z in
    let c = pattern_comes m ts w h in
    by_pattern c.0 c.1 c.2 q.0.0 q.0.1 q.1
  where
    by_pattern : (j : ℕ) (o : Option (List ℕ)) → pattern_of j m ts ≡ Some o → is_side s y m ≡ false → nat_lt s.level m ≡ false → AllStrict s ts → GoodLook s inside k (flexible y m ts)
    by_pattern j None e a b c = good_flexible s inside k y m ts a b j e (strict_all N ι s true k ts w p h l c)
    by_pattern j (Some d) e a b c = good_pattern s inside k y m ts d j e (pattern_inside s inside y m d a b (eigens_strict s d (pattern_tells j m ts d e).arguments refl c))

stricts_below : (N : ℕ) → StrictsBelow N
stricts_below zero s inside k t w p h l z = absurd (omega arith)
stricts_below (suc N) s inside k t w p h l z =
    let a = look_comes h in
    let r = look_reduces a.steps t a.view a.is in
    good_seen s inside k t a.steps a.view a.is (strict_look N (stricts_below N) s inside k a.view w p (look_firm a.steps t a.view a.is) a.parts (omega arith) (strict_like (converts_sym (converts_reduces r)) z))

pub stricts_good : (s : Side) (inside : Bool) (k : ℕ) (ts : List Term) (w : ℕ) → s.pair ≤ k → AllWeigh ts w → AllStrict s ts → GoodAll s inside k ts
stricts_good s inside k ts w p h z = strict_all w (stricts_below w) s inside k ts w p h (omega arith) z
