-- A scan of a pattern term finds patterns alone and delays nothing; pruning and settling lead to pattern terms.
use Rattle.std.proofs.Common.{◌≡◌, ℕ, zero, suc, ◌≤◌, List, [], ◌∷◌, ◌++◌, Bool, true, false, Option, Some, None, refl, sym, ap, ◌∙◌, subst as transport, arith}
use Rattle.std.specs.Prelude.{◌||◌, not, nat_lt, if◌then◌else◌, option_map, option_and_then}
use Rattle.std.proofs.lemmas.Option.{same_Some, option_and_then_some}
use Rattle.lp_calculus.specs.Term.{Term, index, atom, abs, app, apply, Atom, eigen, logic, constant, integer, text, param, substitute}
use Rattle.lp_calculus.specs.Convert.{here, by_beta, done, then_step}
use Rattle.lp_calculus.specs.Fill.{Within}
use Rattle.lp_calculus.specs.Normal.{IsHead}
use Rattle.lp_calculus.specs.Spine.{head_of}
use Rattle.lp_calculus.proofs.Fills.{within_more}
use Rattle.lp_calculus.proofs.Rigid.{IsRigid, rigid_head}
use Rattle.lp_calculus.proofs.Steps.{within_reduces}
use Rattle.lp_model.specs.Look.{Look, an_abs, rigid, flexible, look, pattern_of, are_distinct, are_above}
use Rattle.lp_model.specs.Scan.{Side, is_side, allows_head, Pattern, pattern, Scanned, broken, whole, above, beside, scanned_pattern, scan, scan_all}
use Rattle.lp_unify_laws.specs.Levels.{IsPairAtom}
use Rattle.lp_unify_laws.proofs.Closings.{WithinAll, within_apply}
use Rattle.lp_unify_laws.proofs.Firm.{IsFirm, look_firm}
use Rattle.lp_unify_laws.proofs.Looks.{seen, look_reduces}
use Rattle.lp_unify_laws.proofs.Scans.{Seen, open_seen}
use Rattle.lp_pattern_laws.specs.Patterns.{IsPattern}
use Rattle.lp_pattern_laws.proofs.Comes.{on_eigen, parted, pattern_goes}
use Rattle.lp_pattern_laws.proofs.Looked.{stands_on_pattern}
use Rattle.lp_pattern_laws.proofs.Filled.{above_new}

-- arguments of a pattern term
abbrev pub AllPatterns : List Term → Type 0
AllPatterns [] = Unit {0}
AllPatterns (t ∷ ts) = IsPattern t × AllPatterns ts

pub arguments_patterns : (ts : List Term) (h : Term) → IsHead (head_of h) → IsPattern (apply h ts) → IsPattern h × AllPatterns ts
arguments_patterns [] h i p = (p, tt)
arguments_patterns (t ∷ ts) h i p =
    let r = arguments_patterns ts (app h t) i p in
    let q = parted h t i r.0 in
    (q.0, (q.1, r.1))

-- a head that is seen is one
pub head_seen : (h : Term) → IsRigid h → IsHead (head_of h)
head_seen (index i) f = tt
head_seen (atom a) f = tt
head_seen (abs b) f = rigid_head (abs b) f
head_seen (app t u) f = absurd (rigid_head (app t u) f)

-- a pattern whose arguments are distinct and above its level
abbrev pub IsGood : Pattern → Type 0
IsGood p = (are_distinct p.arguments ≡ true) × (are_above p.level p.arguments ≡ true)

abbrev pub AreGood : List Pattern → Type 0
AreGood [] = Unit {0}
AreGood (p ∷ ps) = IsGood p × AreGood ps

good_append : (ps qs : List Pattern) → AreGood ps → AreGood qs → AreGood (ps ++ qs)
good_append [] qs h k = k
good_append (p ∷ ps) qs h k = (h.0, good_append ps qs h.1 k)

-- nothing is delayed
abbrev pub IsWell : Scanned → Type 0
IsWell (broken u) = Unit {0}
IsWell (whole u d ps) = (d ≡ false) × AreGood ps

above_well : (r : Scanned) → IsWell r → IsWell (above false r)
above_well (broken n) h = tt
above_well (whole n e ps) h = h

beside_well : (n : ℕ) (ps : List Pattern) → AreGood ps → (r : Scanned) → IsWell r → IsWell (beside n false ps r)
beside_well n ps g (broken m) h = tt
beside_well n ps g (whole m e qs) h = (h.0, good_append ps qs g h.1)

pub mapped : {A B : Type 0} (f : A → B) (o : Option A) (b : B) → option_map f o ≡ Some b → (P : B → Type 0) → ((a : A) → o ≡ Some a → P (f a)) → P b
mapped f None b e P h = absurd (cc)
mapped f (Some a) b e P h = transport P (same_Some (f a) b e) (h a refl)

-- what was seen of a level, opened
seen_level : (next p k : ℕ) → p ≤ k → (a : Atom) → Seen next p k a → IsPairAtom next k a
seen_level next p k h (eigen j) w = w
seen_level next p k h (logic x l) w = let q : l ≤ p = w.1 in let r : l ≤ k = omega (arith, q, h) in (w.0, r)
seen_level next p k h (constant c ts) w = tt
seen_level next p k h (integer z) w = tt
seen_level next p k h (text s) w = tt
seen_level next p k h (param i t) w = tt

pub open_pattern : (next k : ℕ) (b : Term) → IsPattern (abs b) → Within (IsPairAtom next k) 0 (abs b) → IsPattern (substitute (atom (eigen (suc k))) b)
open_pattern next k b p w =
    pattern_goes (then_step (here (by_beta b (atom (eigen (suc k))))) (done (substitute (atom (eigen (suc k))) b))) (on_eigen (abs b) (suc k) p (above_new next k 0 (abs b) w (suc k) (omega arith)))

abbrev Tells : ℕ → Type 0
Tells n = (s : Side) (next k : ℕ) (t : Term) (r : Scanned) → s.pair ≤ k → IsPattern t → Within (Seen next s.pair k) 0 t → scan n s false k t ≡ Some r → IsWell r

abbrev TellsAll : ℕ → Type 0
TellsAll n = (s : Side) (next k : ℕ) (ts : List Term) (r : Scanned) → s.pair ≤ k → AllPatterns ts → WithinAll (Seen next s.pair k) ts → scan_all n s false k ts ≡ Some r → IsWell r

pattern_well : (s : Side) (y m : ℕ) (b : List ℕ) → are_distinct b ≡ true → are_above m b ≡ true → IsWell (scanned_pattern s false y m b)
pattern_well s y m b d a = by (is_side s y m)
  where
    by : (t : Bool) → IsWell (if t then broken 1 else whole 1 false (pattern y m b ∷ []))
    by true = tt
    by false = (refl, ((d, a), tt))

by_look : (n : ℕ) → Tells n → TellsAll n → (s : Side) (next k : ℕ) (r : Scanned) (v : Look) → IsFirm v → s.pair ≤ k → IsPattern (seen v) → Within (Seen next s.pair k) 0 (seen v) → (elim v [
  | an_abs b ↦ scan n s false (suc k) (substitute (atom (eigen (suc k))) b)
  | rigid h ts ↦ elim (allows_head s h || false) [
    | true ↦ option_map (above (not (allows_head s h))) (scan_all n s false k ts)
    | false ↦ Some (broken 1)
  ]
  | flexible y m ts ↦ option_and_then (λ o. elim o [
    | Some b ↦ Some (scanned_pattern s false y m b)
    | None ↦ option_map (above (is_side s y m || nat_lt s.level m)) (scan_all n s true k ts)
  ]) (pattern_of n m ts)
]) ≡ Some r → IsWell r
by_look n one all s next k r (an_abs b) f l p w e =
    one s next (suc k) (substitute (atom (eigen (suc k))) b) r (omega (arith, l))
    (open_pattern next k b p (within_more (Seen next s.pair k) (IsPairAtom next k) 0 0 (seen_level next s.pair k l) (omega arith) (abs b) w)) (open_seen next s.pair k b w) e
by_look n one all s next k r (rigid h ts) f l p w e = elim (allows_head s h) as (λ x.
    (elim (x || false) [ true ↦ option_map (above (not x)) (scan_all n s false k ts) | false ↦ Some (broken 1) ]) ≡ Some r → IsWell r) [
      | true ↦ λ q. mapped (above false) (scan_all n s false k ts) r q IsWell (λ a i. above_well a
          (all s next k ts a l (arguments_patterns ts h (head_seen h f) p).1 (within_apply (Seen next s.pair k) ts h w).1 i))
      | false ↦ λ q. transport IsWell (same_Some (broken 1) r q) tt
    ] e
by_look n one all s next k r (flexible y m ts) f l p w e = option_and_then_some _ (pattern_of n m ts) r e λ o i q.
    let (b, is, d, a) = stands_on_pattern (Seen next s.pair k) n y m ts p w o i in
    let q' : Some (scanned_pattern s false y m b) ≡ Some r =
    sym (ap (λ (o' : Option (List ℕ)). elim o' as (λ z. Option Scanned) [
      | Some b ↦ Some (scanned_pattern s false y m b)
      | None ↦ option_map
          (above (is_side s y m || nat_lt s.level m)) (scan_all n s true k ts)
    ]) is) ∙ q in
    transport IsWell (same_Some (scanned_pattern s false y m b) r q') (pattern_well s y m b d a)

by_first : (n : ℕ) → TellsAll n → (s : Side) (next k : ℕ) (ts : List Term) (r x : Scanned) → s.pair ≤ k → AllPatterns ts → WithinAll (Seen next s.pair k) ts → IsWell x → (elim x [
  | broken u ↦ Some (broken u)
  | whole u d ps ↦ option_map (beside u d ps) (scan_all n s false k ts)
]) ≡ Some r → IsWell r
by_first n all s next k ts r (broken u) l p w h e = transport IsWell (same_Some (broken u) r e) tt
by_first n all s next k ts r (whole u true ps) l p w h e = absurd (let q = h.0 in cc)
by_first n all s next k ts r (whole u false ps) l p w h e = mapped (beside u false ps) (scan_all n s false k ts) r e IsWell (λ a i. beside_well u ps h.1 a (all s next k ts a l p w i))

mutual
  pub scan_well : (n : ℕ) → Tells n
  scan_well zero s next k t r l p w e = absurd (cc)
  scan_well (suc n) s next k t r l p w e = option_and_then_some _ (look n t) r e λ v i q.
      let c = look_reduces n t v i in
      by_look n (scan_well n) (scan_all_well n) s next k r v (look_firm n t v i) l (pattern_goes c p) (within_reduces (Seen next s.pair k) 0 c w) q

  pub scan_all_well : (n : ℕ) → TellsAll n
  scan_all_well zero s next k ts r l p w e = absurd (cc)
  scan_all_well (suc n) s next k [] r l p w e = transport IsWell (same_Some (whole 0 false []) r e) (refl, tt)
  scan_all_well (suc n) s next k (t ∷ ts) r l p w e = option_and_then_some _ (scan n s false k t) r e λ x i q.
      by_first n (scan_all_well n) s next k ts r x l p.1 w.1 (scan_well n s next k t x l p.0 w.0 i) q
