-- Scans, pruning, settling and comparing go through with other eigenconstants and other levels.
use Rattle.std.proofs.Common.{◌≡◌, ℕ, zero, suc, ◌+◌, ◌≤◌, min, List, [], ◌∷◌, ◌++◌, map, ◌∙◌, refl, sym, ap, arith, Bool, true, false, nat_eq, not, if◌then◌else◌, ◌||◌, Option, Some, None}
use Rattle.std.specs.Prelude.{◌&&◌, nat_lt, nat_le, option_map, option_and_then}
use Rattle.std.proofs.lemmas.List.{map-append}
use Rattle.lp_calculus.specs.Term.{Term, index, atom, abs, app, apply, substitute, constant, integer, text, eigen, logic, param}
use Rattle.lp_calculus.specs.Fill.{put, abstraction, abstracted}
use Rattle.lp_model.specs.Patterns.{eigens, chosen}
use Rattle.lp_model.specs.Look.{Look, an_abs, rigid, flexible, look, pattern_of}
use Rattle.lp_model.specs.Scan.{Side, is_side, allows, allow, allows_head, Scanned, broken, whole, above, beside, scanned_pattern, scan, scan_all, Pattern, pattern, pattern_term, fits, first_misfit, renewed, renewal, Pruned, led_by, prune, settle, settle_all}
use Rattle.lp_unify_laws.proofs.Instances.{map_map, bind_map}
use Rattle.lp_search_laws.proofs.Moved.Terms.{Moving, moved, moved_all, moved_substitute, moved_look, look_moved, pattern_moved, member_moved, moved_pattern, moved_binding, put_moved, abstraction_moved, abstracted_moved}

pub up_one : (a b : ℕ) → a ≤ b → a ≤ suc b
up_one a b l = omega (arith, l)

abbrev pub moved_side : Moving → Side → Side
moved_side m s = record { id = s.id; level = m.level s.level; arguments = map m.eigen s.arguments; pair = m.level s.pair }

abbrev pub moved_place : Moving → Pattern → Pattern
moved_place m p = record { id = p.id; level = m.level p.level; arguments = map m.eigen p.arguments }

abbrev pub moved_scanned : Moving → Scanned → Scanned
moved_scanned m (broken u) = broken u
moved_scanned m (whole u d ps) = whole u d (map (moved_place m) ps)

pub side_moved : (m : Moving) (s : Side) (y l : ℕ) → is_side (moved_side m s) y (m.level l) ≡ is_side s y l
side_moved m s y l = λ i. nat_eq y s.id && m.same_levels l s.level i

allows_moved : (m : Moving) (s : Side) (k : ℕ) → allows (moved_side m s) (m.eigen k) ≡ allows s k
allows_moved m s k = λ i. m.up_to k s.level i || member_moved m k s.arguments i || m.above s.pair k i

allow_moved : (m : Moving) (s : Side) (ks : List ℕ) → allow (moved_side m s) (map m.eigen ks) ≡ allow s ks
allow_moved m s [] = refl
allow_moved m s (k ∷ ks) = λ i. allows_moved m s k i && allow_moved m s ks i

pub head_moved : (m : Moving) (s : Side) (h : Term) → allows_head (moved_side m s) (moved m h) ≡ allows_head s h
head_moved m s (index i) = refl
head_moved m s (atom (logic x l)) = refl
head_moved m s (atom (constant c us)) = refl
head_moved m s (atom (integer z)) = refl
head_moved m s (atom (text r)) = refl
head_moved m s (atom (eigen k)) = allows_moved m s k
head_moved m s (atom (param k u)) = refl
head_moved m s (abs b) = refl
head_moved m s (app f u) = refl

if_scanned : (m : Moving) (b : Bool) (r s : Scanned) → (if b then moved_scanned m r else moved_scanned m s) ≡ moved_scanned m (if b then r else s)
if_scanned m true r s = refl
if_scanned m false r s = refl

scanned_pattern_moved : (m : Moving) (s : Side) (inside : Bool) (y l : ℕ) (b : List ℕ) → scanned_pattern (moved_side m s) inside y (m.level l) (map m.eigen b) ≡ moved_scanned m (scanned_pattern s inside y l b)
scanned_pattern_moved m s true y l b = λ i. whole 1 (side_moved m s y l i || m.lower s.level l i || not (allow_moved m s b i)) (pattern y (m.level l) (map m.eigen b) ∷ [])
scanned_pattern_moved m s false y l b =
    (λ i. if side_moved m s y l i then broken 1 else whole 1 false (pattern y (m.level l) (map m.eigen b) ∷ [])) ∙ if_scanned m (is_side s y l) (broken 1) (whole 1 false (pattern y l b ∷ []))

above_scanned : (m : Moving) (d : Bool) (r : Scanned) → above d (moved_scanned m r) ≡ moved_scanned m (above d r)
above_scanned m d (broken u) = refl
above_scanned m d (whole u e ps) = refl

beside_scanned : (m : Moving) (u : ℕ) (d : Bool) (ps : List Pattern) (r : Scanned) → beside u d (map (moved_place m) ps) (moved_scanned m r) ≡ moved_scanned m (beside u d ps r)
beside_scanned m u d ps (broken v) = refl
beside_scanned m u d ps (whole v e qs) = ap (whole (u + v) (d || e)) (sym (map-append (moved_place m) ps qs))

abbrev Scans : Moving → ℕ → Type 0
Scans m n = (s : Side) (inside : Bool) (k : ℕ) (t : Term) → m.from ≤ k → scan n (moved_side m s) inside (m.level k) (moved m t) ≡ option_map (moved_scanned m) (scan n s inside k t)

abbrev ScansAll : Moving → ℕ → Type 0
ScansAll m n = (s : Side) (inside : Bool) (k : ℕ) (ts : List Term) → m.from ≤ k → scan_all n (moved_side m s) inside (m.level k) (moved_all m ts) ≡ option_map (moved_scanned m) (scan_all n s inside k ts)

abbrev at_test : ℕ → Side → Bool → ℕ → Bool → List Term → Bool → Option Scanned
at_test n s inside k a ts b = elim b [ true ↦ option_map (above (not a)) (scan_all n s inside k ts) | false ↦ Some (broken 1) ]

abbrev at_rigid : ℕ → Side → Bool → ℕ → Bool → List Term → Option Scanned
at_rigid n s inside k a ts = at_test n s inside k a ts (a || inside)

abbrev at_flexible : ℕ → Side → Bool → ℕ → (y m : ℕ) → List Term → Option (List ℕ) → Option Scanned
at_flexible n s inside k y m ts o = elim o [
  | Some b ↦ Some (scanned_pattern s inside y m b)
  | None ↦ option_map (above (is_side s y m || nat_lt s.level m)) (scan_all n s true k ts)
]

abbrev at_look : ℕ → Side → Bool → ℕ → Look → Option Scanned
at_look n s inside k (an_abs b) = scan n s inside (suc k) (substitute (atom (eigen (suc k))) b)
at_look n s inside k (rigid h ts) = at_rigid n s inside k (allows_head s h) ts
at_look n s inside k (flexible y m ts) = option_and_then (at_flexible n s inside k y m ts) (pattern_of n m ts)

flexible_scanned : (m : Moving) (n : ℕ) → ScansAll m n → (s : Side) (inside : Bool) (k y l : ℕ) (ts : List Term) → m.from ≤ k → (o : Option (List ℕ))
    → at_flexible n (moved_side m s) inside (m.level k) y (m.level l) (moved_all m ts) (option_map (map m.eigen) o) ≡ option_map (moved_scanned m)
    (at_flexible n s inside k y l ts o)
flexible_scanned m n all s inside k y l ts h None =
    (λ i. option_map (above (side_moved m s y l i || m.lower s.level l i)) (scan_all n (moved_side m s) true (m.level k) (moved_all m ts))) ∙
    map_map (moved_scanned m) (above (is_side s y l || nat_lt s.level l)) (above (is_side s y l || nat_lt s.level l)) (moved_scanned m) (scan_all n s true k ts) (scan_all n (moved_side m s) true (m.level k) (moved_all m ts)) (all s true k ts h) (above_scanned m (is_side s y l || nat_lt s.level l))
flexible_scanned m n all s inside k y l ts h (Some b) = ap (λ z. Some z) (scanned_pattern_moved m s inside y l b)

test_scanned : (m : Moving) (n : ℕ) → ScansAll m n → (s : Side) (inside : Bool) (k : ℕ) (a : Bool) (ts : List Term) → m.from ≤ k → (b : Bool) → at_test n (moved_side m s) inside (m.level k) a (moved_all m ts) b ≡ option_map (moved_scanned m) (at_test n s inside k a ts b)
test_scanned m n all s inside k a ts h true = map_map (moved_scanned m) (above (not a)) (above (not a)) (moved_scanned m) (scan_all n s inside k ts) (scan_all n (moved_side m s) inside (m.level k) (moved_all m ts)) (all s inside k ts h) (above_scanned m (not a))
test_scanned m n all s inside k a ts h false = refl

look_scanned : (m : Moving) (n : ℕ) → Scans m n → ScansAll m n → (s : Side) (inside : Bool) (k : ℕ) → m.from ≤ k → (v : Look) → at_look n (moved_side m s) inside (m.level k) (moved_look m v) ≡ option_map (moved_scanned m) (at_look n s inside k v)
look_scanned m n here all s inside k h (an_abs b) =
    (λ i. scan n (moved_side m s) inside (sym (m.next_level k h) i) (substitute (atom (eigen (sym (m.next k h) i))) (moved m b))) ∙
    ap (scan n (moved_side m s) inside (m.level (suc k))) (sym (moved_substitute m (atom (eigen (suc k))) b)) ∙ here s inside (suc k) (substitute (atom (eigen (suc k))) b) (up_one m.from k h)
look_scanned m n here all s inside k h (rigid g ts) = ap (λ a. at_rigid n (moved_side m s) inside (m.level k) a (moved_all m ts)) (head_moved m s g) ∙ test_scanned m n all s inside k (allows_head s g) ts h (allows_head s g || inside)
look_scanned m n here all s inside k h (flexible y l ts) = bind_map (option_map (map m.eigen))
    (at_flexible n (moved_side m s) inside (m.level k) y (m.level l) (moved_all m ts)) (at_flexible n s inside k y l ts) (moved_scanned m)
    (pattern_of n l ts) (pattern_of n (m.level l) (moved_all m ts)) (pattern_moved m n l ts) (flexible_scanned m n all s inside k y l ts h)

abbrev behind : ℕ → Side → Bool → ℕ → List Term → Scanned → Option Scanned
behind n s inside k ts r = elim r [
  | broken u ↦ Some (broken u)
  | whole u d ps ↦ option_map (beside u d ps) (scan_all n s inside k ts)
]

behind_scanned : (m : Moving) (n : ℕ) → ScansAll m n → (s : Side) (inside : Bool) (k : ℕ) (ts : List Term) → m.from ≤ k → (r : Scanned) → behind n (moved_side m s) inside (m.level k) (moved_all m ts) (moved_scanned m r) ≡ option_map (moved_scanned m) (behind n s inside k ts r)
behind_scanned m n all s inside k ts h (broken u) = refl
behind_scanned m n all s inside k ts h (whole u d ps) = map_map (moved_scanned m) (beside u d (map (moved_place m) ps)) (beside u d ps) (moved_scanned m) (scan_all n s inside k ts) (scan_all n (moved_side m s) inside (m.level k) (moved_all m ts)) (all s inside k ts h) (beside_scanned m u d ps)

mutual
  pub scan_moved : (m : Moving) (n : ℕ) → Scans m n
  scan_moved m zero s inside k t h = refl
  scan_moved m (suc n) s inside k t h = bind_map (moved_look m) (at_look n (moved_side m s) inside (m.level k)) (at_look n s inside k) (moved_scanned m) (look n t) (look n (moved m t)) (look_moved m n t) (look_scanned m n (scan_moved m n) (scan_all_moved m n) s inside k h)

  pub scan_all_moved : (m : Moving) (n : ℕ) → ScansAll m n
  scan_all_moved m zero s inside k ts h = refl
  scan_all_moved m (suc n) s inside k [] h = refl
  scan_all_moved m (suc n) s inside k (t ∷ ts) h = bind_map (moved_scanned m) (behind n (moved_side m s) inside (m.level k) (moved_all m ts))
      (behind n s inside k ts) (moved_scanned m) (scan n s inside k t) (scan n (moved_side m s) inside (m.level k) (moved m t))
      (scan_moved m n s inside k t h) (behind_scanned m n (scan_all_moved m n) s inside k ts h)

-- pruning
if_chosen : (m : Moving) (b : Bool) (k : ℕ) (ks : List ℕ) → (if b then m.eigen k ∷ map m.eigen ks else map m.eigen ks) ≡ map m.eigen (if b then k ∷ ks else ks)
if_chosen m true k ks = refl
if_chosen m false k ks = refl

chosen_moved : (m : Moving) (p q : ℕ → Bool) → ((k : ℕ) → q (m.eigen k) ≡ p k) → (ks : List ℕ) → chosen q (map m.eigen ks) ≡ map m.eigen (chosen p ks)
chosen_moved m p q h [] = refl
chosen_moved m p q h (k ∷ ks) = (λ i. if h k i then m.eigen k ∷ chosen_moved m p q h ks i else chosen_moved m p q h ks i) ∙ if_chosen m (p k) k (chosen p ks)

pub renewed_moved : (m : Moving) (next y j l : ℕ) (b cs : List ℕ) → renewed next y (m.level j) (m.level l) (map m.eigen b) (map m.eigen cs) ≡ moved_binding m (renewed next y j l b cs)
renewed_moved m next y j l b cs = ap (λ z. record { id = y; level = m.level j; value = z }) (ap (abstracted (map m.eigen b)) (sym (moved_pattern m cs (atom (logic next l)))) ∙ abstracted_moved m b (pattern_term (pattern next l cs)))

renewal_moved : (m : Moving) (s : Side) (next : ℕ) (p : Pattern) → renewal (moved_side m s) next (moved_place m p) ≡ moved_binding m (renewal s next p)
renewal_moved m s next p =
    (λ i. renewed next p.id (m.level p.level) (m.least s.level p.level i) (map m.eigen p.arguments)
    (chosen_moved m (λ k. nat_le k p.level) (λ k. nat_le k (m.level p.level)) (λ k. m.up_to k p.level) s.arguments i ++ chosen_moved m (allows s)
    (allows (moved_side m s)) (allows_moved m s) p.arguments i)) ∙
    ap (renewed next p.id (m.level p.level) (m.level (min s.level p.level)) (map m.eigen p.arguments)) (sym (map-append m.eigen (chosen (λ k. nat_le k p.level) s.arguments) (chosen (allows s) p.arguments))) ∙
    renewed_moved m next p.id p.level (min s.level p.level) p.arguments (chosen (λ k. nat_le k p.level) s.arguments ++ chosen (allows s) p.arguments)

if_misfit : (m : Moving) (b : Bool) (o : Option Pattern) (p : Pattern) → (if b then option_map (moved_place m) o else Some (moved_place m p)) ≡ option_map (moved_place m) (if b then o else Some p)
if_misfit m true o p = refl
if_misfit m false o p = refl

misfit_moved : (m : Moving) (s : Side) (ps : List Pattern) → first_misfit (moved_side m s) (map (moved_place m) ps) ≡ option_map (moved_place m) (first_misfit s ps)
misfit_moved m s [] = refl
misfit_moved m s (p ∷ ps) = (λ i. if m.at_most p.level s.level i && allow_moved m s p.arguments i then misfit_moved m s ps i else Some (moved_place m p)) ∙ if_misfit m (fits s p) (first_misfit s ps) p

abbrev pub moved_pruned : Moving → Pruned → Pruned
moved_pruned m r = record { bindings = map (moved_binding m) r.bindings; next = r.next; term = moved m r.term }

abbrev by_misfit : ℕ → Side → (next : ℕ) → Term → Option Pattern → Option Pruned
by_misfit n s next t o = elim o [
  | None ↦ Some (record { bindings = []; next = next; term = t })
  | Some p ↦ option_map (led_by (renewal s next p)) (prune n s (suc next) (put (renewal s next p) t))
]

abbrev by_scan : ℕ → Side → (next : ℕ) → Term → Scanned → Option Pruned
by_scan n s next t r = elim r [
  | broken u ↦ None
  | whole u true ps ↦ None
  | whole u false ps ↦ by_misfit n s next t (first_misfit s ps)
]

abbrev Prunes : Moving → ℕ → Type 0
Prunes m n = (s : Side) (next : ℕ) (t : Term) → m.from ≤ s.pair → prune n (moved_side m s) next (moved m t) ≡ option_map (moved_pruned m) (prune n s next t)

misfit_pruned : (m : Moving) (n : ℕ) → Prunes m n → (s : Side) (next : ℕ) (t : Term) → m.from ≤ s.pair → (o : Option Pattern) → by_misfit n (moved_side m s) next (moved m t) (option_map (moved_place m) o) ≡ option_map (moved_pruned m) (by_misfit n s next t o)
misfit_pruned m n h s next t l None = refl
misfit_pruned m n h s next t l (Some p) =
    let b = renewal s next p in
    (λ i. option_map (led_by (renewal_moved m s next p i)) (prune n (moved_side m s) (suc next) (put (renewal_moved m s next p i) (moved m t)))) ∙
    map_map (moved_pruned m) (led_by (moved_binding m b)) (led_by b) (moved_pruned m) (prune n s (suc next) (put b t)) (prune n (moved_side m s) (suc next) (put (moved_binding m b) (moved m t)))
    (ap (prune n (moved_side m s) (suc next)) (put_moved m b t) ∙ h s (suc next) (put b t) l) (λ r. refl)

scan_pruned : (m : Moving) (n : ℕ) → Prunes m n → (s : Side) (next : ℕ) (t : Term) → m.from ≤ s.pair → (r : Scanned) → by_scan n (moved_side m s) next (moved m t) (moved_scanned m r) ≡ option_map (moved_pruned m) (by_scan n s next t r)
scan_pruned m n h s next t l (broken u) = refl
scan_pruned m n h s next t l (whole u true ps) = refl
scan_pruned m n h s next t l (whole u false ps) = ap (by_misfit n (moved_side m s) next (moved m t)) (misfit_moved m s ps) ∙ misfit_pruned m n h s next t l (first_misfit s ps)

pub prune_moved : (m : Moving) (n : ℕ) → Prunes m n
prune_moved m zero s next t l = refl
prune_moved m (suc n) s next t l = bind_map (moved_scanned m) (by_scan n (moved_side m s) next (moved m t)) (by_scan n s next t) (moved_pruned m)
    (scan n s false s.pair t) (scan n (moved_side m s) false (m.level s.pair) (moved m t)) (scan_moved m n s false s.pair t l)
    (scan_pruned m n (prune_moved m n) s next t l)

-- settling
abbrev Settles : Moving → ℕ → Type 0
Settles m n = (k : ℕ) (t : Term) → m.from ≤ k → settle n (m.level k) (moved m t) ≡ option_map (moved m) (settle n k t)

abbrev SettlesAll : Moving → ℕ → Type 0
SettlesAll m n = (k : ℕ) (h : Term) (ts : List Term) → m.from ≤ k → settle_all n (m.level k) (moved m h) (moved_all m ts) ≡ option_map (moved m) (settle_all n k h ts)

abbrev settle_flexible : ℕ → ℕ → (y m : ℕ) → List Term → Option (List ℕ) → Option Term
settle_flexible n k y m ts o = elim o [
  | Some b ↦ Some (apply (atom (logic y m)) (eigens b))
  | None ↦ settle_all n k (atom (logic y m)) ts
]

abbrev settle_look : ℕ → ℕ → Look → Option Term
settle_look n k v = elim v [
  | an_abs b ↦ option_map (abstraction (suc k)) (settle n (suc k) (substitute (atom (eigen (suc k))) b))
  | rigid h ts ↦ settle_all n k h ts
  | flexible y m ts ↦ option_and_then (settle_flexible n k y m ts) (pattern_of n m ts)
]

flexible_settled : (m : Moving) (n : ℕ) → SettlesAll m n → (k y l : ℕ) (ts : List Term) → m.from ≤ k → (o : Option (List ℕ)) → settle_flexible n (m.level k) y (m.level l) (moved_all m ts) (option_map (map m.eigen) o) ≡ option_map (moved m) (settle_flexible n k y l ts o)
flexible_settled m n all k y l ts h None = all k (atom (logic y l)) ts h
flexible_settled m n all k y l ts h (Some b) = ap (λ z. Some z) (sym (moved_pattern m b (atom (logic y l))))

look_settled : (m : Moving) (n : ℕ) → Settles m n → SettlesAll m n → (k : ℕ) → m.from ≤ k → (v : Look) → settle_look n (m.level k) (moved_look m v) ≡ option_map (moved m) (settle_look n k v)
look_settled m n here all k h (an_abs b) =
    (λ i. option_map (abstraction (sym (m.next k h) i)) (settle n (sym (m.next_level k h) i) (substitute (atom (eigen (sym (m.next k h) i))) (moved m b)))) ∙
    map_map (moved m) (abstraction (m.eigen (suc k))) (abstraction (suc k)) (moved m) (settle n (suc k) (substitute (atom (eigen (suc k))) b)) (settle n (m.level (suc k)) (substitute (atom (eigen (m.eigen (suc k)))) (moved m b)))
    (ap (settle n (m.level (suc k))) (sym (moved_substitute m (atom (eigen (suc k))) b)) ∙ here (suc k) (substitute (atom (eigen (suc k))) b) (up_one m.from k h)) (abstraction_moved m (suc k))
look_settled m n here all k h (rigid g ts) = all k g ts h
look_settled m n here all k h (flexible y l ts) = bind_map (option_map (map m.eigen)) (settle_flexible n (m.level k) y (m.level l) (moved_all m ts))
    (settle_flexible n k y l ts) (moved m) (pattern_of n l ts) (pattern_of n (m.level l) (moved_all m ts)) (pattern_moved m n l ts)
    (flexible_settled m n all k y l ts h)

mutual
  pub settle_moved : (m : Moving) (n : ℕ) → Settles m n
  settle_moved m zero k t h = refl
  settle_moved m (suc n) k t h = bind_map (moved_look m) (settle_look n (m.level k)) (settle_look n k) (moved m) (look n t) (look n (moved m t)) (look_moved m n t) (look_settled m n (settle_moved m n) (settle_all_moved m n) k h)

  pub settle_all_moved : (m : Moving) (n : ℕ) → SettlesAll m n
  settle_all_moved m zero k g ts h = refl
  settle_all_moved m (suc n) k g [] h = refl
  settle_all_moved m (suc n) k g (t ∷ ts) h = bind_map (moved m) (λ u. settle_all n (m.level k) (app (moved m g) u) (moved_all m ts)) (λ u. settle_all n k (app g u) ts) (moved m) (settle n k t) (settle n (m.level k) (moved m t)) (settle_moved m n k t h) (λ u. settle_all_moved m n k (app g u) ts h)
