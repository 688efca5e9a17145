-- Scanning and settling a term that weighs something comes: what is gone into weighs less than the whole.
use Rattle.std.proofs.Common.{ℕ, zero, suc, ◌+◌, ◌<◌, ◌≤◌, List, [], ◌∷◌, ◌∙◌, refl, ap, arith, Bool, true, false, Option, Some, None, not, ◌||◌}
use Rattle.std.specs.Prelude.{option_map, option_and_then, nat_lt}
use Rattle.lp_calculus.specs.Term.{Term, atom, app, apply, substitute, eigen, logic}
use Rattle.lp_calculus.specs.Fill.{abstraction}
use Rattle.lp_model.specs.Patterns.{eigens}
use Rattle.lp_model.specs.Look.{Look, an_abs, rigid, flexible, pattern_of}
use Rattle.lp_model.specs.Scan.{Side, is_side, allows_head, Scanned, broken, whole, above, beside, scanned_pattern, scan, scan_all, settle, settle_all}
use Rattle.lp_unify_laws.proofs.NormalForms.Weights.{Weighs, body_weighs}
use Rattle.lp_unify_laws.proofs.Termination.Looks.{AllWeigh, LookWeighs, look_comes, pattern_comes}
use Rattle.lp_unify_laws.proofs.MoreSteps.Scans.{below_same, below_map, below_then, look_more, pattern_more, scan_more, scan_all_more}
use Rattle.lp_unify_laws.proofs.MoreSteps.Rules.{below_if, settle_look, settle_more, settle_all_more}
use Rattle.lp_unify_laws.proofs.Termination.Comes.{Comes, Grows, comes_map, comes_then, comes_if}

-- scanning
abbrev pub of_pattern : Side → Bool → ℕ → ℕ → ℕ → List Term → ℕ → Option (List ℕ) → Option Scanned
of_pattern s inside k y m ts n o = elim o [
  | Some b ↦ Some (scanned_pattern s inside y m b)
  | None ↦ option_map (above (is_side s y m || nat_lt s.level m)) (scan_all n s true k ts)
]

abbrev pub scan_look : Side → Bool → ℕ → ℕ → Look → Option Scanned
scan_look s inside k n v = elim v [
  | an_abs b ↦ scan n s inside (suc k) (substitute (atom (eigen (suc k))) b)
  | rigid h ts ↦ elim (allows_head s h || inside) [
    | true ↦ option_map (above (not (allows_head s h))) (scan_all n s inside k ts)
    | false ↦ Some (broken 1)
  ]
  | flexible y m ts ↦ option_and_then (of_pattern s inside k y m ts n) (pattern_of n m ts)
]

pattern_grows : (s : Side) (inside : Bool) (k y m : ℕ) (ts : List Term) (o : Option (List ℕ)) → Grows (λ n. of_pattern s inside k y m ts n o)
pattern_grows s inside k y d ts (Some b) n m l = below_same (Some (scanned_pattern s inside y d b))
pattern_grows s inside k y d ts None n m l = below_map (scan_all n s true k ts) (scan_all m s true k ts) (above (is_side s y d || nat_lt s.level d)) (scan_all_more n m l s true k ts)

pub look_grows : (s : Side) (inside : Bool) (k : ℕ) (v : Look) → Grows (λ n. scan_look s inside k n v)
look_grows s inside k (an_abs b) n m l = scan_more n m l s inside (suc k) (substitute (atom (eigen (suc k))) b)
look_grows s inside k (rigid h ts) n m l = below_if (allows_head s h || inside) _ _ _ _ (below_map (scan_all n s inside k ts) (scan_all m s inside k ts) (above (not (allows_head s h))) (scan_all_more n m l s inside k ts)) (below_same (Some (broken 1)))
look_grows s inside k (flexible y d ts) n m l = below_then (pattern_of n d ts) (pattern_of m d ts) (of_pattern s inside k y d ts n) (of_pattern s inside k y d ts m) (pattern_more n m l d ts) (λ o. pattern_grows s inside k y d ts o n m l)

abbrev ScansBelow : ℕ → Type 0
ScansBelow N = (s : Side) (inside : Bool) (k : ℕ) (t : Term) (w : ℕ) → Weighs t w → w < N → Comes (λ n. scan n s inside k t)

abbrev pub behind : Side → Bool → ℕ → List Term → ℕ → Scanned → Option Scanned
behind s inside k ts n r = elim r [
  | broken u ↦ Some (broken u)
  | whole u d ps ↦ option_map (beside u d ps) (scan_all n s inside k ts)
]

behind_grows : (s : Side) (inside : Bool) (k : ℕ) (ts : List Term) (r : Scanned) → Grows (λ n. behind s inside k ts n r)
behind_grows s inside k ts (broken u) n m l = below_same (Some (broken u))
behind_grows s inside k ts (whole u d ps) n m l = below_map (scan_all n s inside k ts) (scan_all m s inside k ts) (beside u d ps) (scan_all_more n m l s inside k ts)

behind_comes : (s : Side) (inside : Bool) (k : ℕ) (ts : List Term) → Comes (λ n. scan_all n s inside k ts) → (r : Scanned) → Comes (λ n. behind s inside k ts n r)
behind_comes s inside k ts c (broken u) = (0, broken u, refl)
behind_comes s inside k ts c (whole u d ps) = comes_map (λ n. scan_all n s inside k ts) (beside u d ps) c

all_scanned : (N : ℕ) → ScansBelow N → (s : Side) (inside : Bool) (k : ℕ) (ts : List Term) (w : ℕ) → AllWeigh ts w → w ≤ N → Comes (λ n. scan_all n s inside k ts)
all_scanned N ι s inside k [] w h l = (1, whole 0 false [], refl)
all_scanned N ι s inside k (t ∷ ts) w h l =
    let i = h.2.0 in
    let rest = all_scanned N ι s inside k ts h.1 h.2.1.1 (omega arith) in
    let c = comes_then (λ n. scan n s inside k t) (behind s inside k ts) (λ n m e. scan_more n m e s inside k t) (behind_grows s inside k ts) (ι s inside k t h.0 h.2.1.0 (omega arith)) (λ r n e. behind_comes s inside k ts rest r) in
    (suc c.0, c.1, c.2)

pattern_scanned : (s : Side) (inside : Bool) (k y m : ℕ) (ts : List Term) → Comes (λ n. scan_all n s true k ts) → (o : Option (List ℕ)) → Comes (λ n. of_pattern s inside k y m ts n o)
pattern_scanned s inside k y m ts c (Some b) = (0, scanned_pattern s inside y m b, refl)
pattern_scanned s inside k y m ts c None = comes_map (λ n. scan_all n s true k ts) (above (is_side s y m || nat_lt s.level m)) c

look_scanned : (N : ℕ) → ScansBelow N → (s : Side) (inside : Bool) (k : ℕ) (v : Look) (w : ℕ) → LookWeighs v w → w ≤ N → Comes (λ n. scan_look s inside k n v)
look_scanned N ι s inside k (an_abs b) w h l = let i = h.1.0 in ι s inside (suc k) (substitute (atom (eigen (suc k))) b) h.0 (body_weighs (eigen (suc k)) b h.1.1) (omega arith)
look_scanned N ι s inside k (rigid h ts) w p l = comes_if (allows_head s h || inside) (λ n. option_map (above (not (allows_head s h))) (scan_all n s inside k ts)) (λ n. Some (broken 1))
    (λ e. comes_map (λ n. scan_all n s inside k ts) (above (not (allows_head s h))) (all_scanned N ι s inside k ts w p l))
    (λ e. (0, broken 1, refl))
look_scanned N ι s inside k (flexible y d ts) w p l = comes_then (λ n. pattern_of n d ts) (of_pattern s inside k y d ts) (λ n m e. pattern_more n m e d ts) (pattern_grows s inside k y d ts) (pattern_comes d ts w p)
    (λ o n e. pattern_scanned s inside k y d ts (all_scanned N ι s true k ts w p l) o)

scanned_below : (N : ℕ) → ScansBelow N
scanned_below zero s inside k t w h l = absurd (omega arith)
scanned_below (suc N) s inside k t w h l =
    let a = look_comes h in
    let c = look_scanned N (scanned_below N) s inside k a.view w a.parts (omega arith) in
    let m = a.steps + c.0 in
    let e = look_more a.steps m (omega arith) t a.view a.is in
    let i = look_grows s inside k a.view c.0 m (omega arith) c.1 c.2 in
    (suc m, c.1, ap (option_and_then (scan_look s inside k m)) e ∙ i)

pub scan_comes : (s : Side) (inside : Bool) (k : ℕ) (t : Term) (w : ℕ) → Weighs t w → Comes (λ n. scan n s inside k t)
scan_comes s inside k t w h = scanned_below (suc w) s inside k t w h (omega arith)

-- settling
abbrev settle_pattern : ℕ → ℕ → ℕ → List Term → ℕ → Option (List ℕ) → Option Term
settle_pattern k y m ts n o = elim o [
  | Some b ↦ Some (apply (atom (logic y m)) (eigens b))
  | None ↦ settle_all n k (atom (logic y m)) ts
]

abbrev settle_view : ℕ → ℕ → Look → Option Term
settle_view k n v = elim v [
  | an_abs b ↦ option_map (abstraction (suc k)) (settle n (suc k) (substitute (atom (eigen (suc k))) b))
  | rigid h ts ↦ settle_all n k h ts
  | flexible y m ts ↦ option_and_then (settle_pattern k y m ts n) (pattern_of n m ts)
]

abbrev SettlesBelow : ℕ → Type 0
SettlesBelow N = (k : ℕ) (t : Term) (w : ℕ) → Weighs t w → w < N → Comes (λ n. settle n k t)

all_settled : (N : ℕ) → SettlesBelow N → (k : ℕ) (h : Term) (ts : List Term) (w : ℕ) → AllWeigh ts w → w ≤ N → Comes (λ n. settle_all n k h ts)
all_settled N ι k h [] w a l = (1, h, refl)
all_settled N ι k h (t ∷ ts) w a l =
    let i = a.2.0 in
    let c = comes_then (λ n. settle n k t) (λ n u. settle_all n k (app h u) ts) (λ n m e. settle_more n m e k t) (λ u n m e. settle_all_more n m e k (app h u) ts) (ι k t a.0 a.2.1.0 (omega arith)) (λ u n e. all_settled N ι k (app h u) ts a.1 a.2.1.1 (omega arith)) in
    (suc c.0, c.1, c.2)

settle_pattern_grows : (k y m : ℕ) (ts : List Term) (o : Option (List ℕ)) → Grows (λ n. settle_pattern k y m ts n o)
settle_pattern_grows k y d ts (Some b) n m l = below_same (Some (apply (atom (logic y d)) (eigens b)))
settle_pattern_grows k y d ts None n m l = settle_all_more n m l k (atom (logic y d)) ts

pattern_settled : (k y m : ℕ) (ts : List Term) → Comes (λ n. settle_all n k (atom (logic y m)) ts) → (o : Option (List ℕ)) → Comes (λ n. settle_pattern k y m ts n o)
pattern_settled k y m ts c (Some b) = (0, apply (atom (logic y m)) (eigens b), refl)
pattern_settled k y m ts c None = c

look_settled : (N : ℕ) → SettlesBelow N → (k : ℕ) (v : Look) (w : ℕ) → LookWeighs v w → w ≤ N → Comes (λ n. settle_view k n v)
look_settled N ι k (an_abs b) w h l = let i = h.1.0 in comes_map (λ n. settle n (suc k) (substitute (atom (eigen (suc k))) b)) (abstraction (suc k)) (ι (suc k) (substitute (atom (eigen (suc k))) b) h.0 (body_weighs (eigen (suc k)) b h.1.1) (omega arith))
look_settled N ι k (rigid h ts) w p l = all_settled N ι k h ts w p l
look_settled N ι k (flexible y d ts) w p l = comes_then (λ n. pattern_of n d ts) (settle_pattern k y d ts) (λ n m e. pattern_more n m e d ts) (settle_pattern_grows k y d ts) (pattern_comes d ts w p)
    (λ o n e. pattern_settled k y d ts (all_settled N ι k (atom (logic y d)) ts w p l) o)

settled_below : (N : ℕ) → SettlesBelow N
settled_below zero k t w h l = absurd (omega arith)
settled_below (suc N) k t w h l =
    let a = look_comes h in
    let c = look_settled N (settled_below N) k a.view w a.parts (omega arith) in
    let m = a.steps + c.0 in
    let e = look_more a.steps m (omega arith) t a.view a.is in
    let i = settle_look c.0 m (omega arith) k a.view (λ u. settle_more c.0 m (omega arith) (suc k) u) (λ g ts. settle_all_more c.0 m (omega arith) k g ts) c.1 c.2 in
    (suc m, c.1, ap (option_and_then (settle_view k m)) e ∙ i)

pub settle_comes : (k : ℕ) (t : Term) (w : ℕ) → Weighs t w → Comes (λ n. settle n k t)
settle_comes k t w h = settled_below (suc w) k t w h (omega arith)
