-- What a scan found whole and fit is clean; so it is whole and fit still where a new variable is put for one of a pattern that did not fit.
use Rattle.std.proofs.Common.{◌≡◌, ℕ, zero, suc, ◌+◌, ◌-◌, ◌<◌, List, [], ◌∷◌, ◌++◌, map, ◌∙◌, refl, sym, ap, subst as transport, arith, Bool, true, false, Option, Some, None, ◌||◌, if◌then◌else◌, nat_eq}
use Rattle.std.specs.Prelude.{option_map, option_and_then, not, nat_lt, nat_le, min, ◌&&◌}
use Rattle.std.proofs.lemmas.Bool.Decides.{nat_tests}
use Rattle.lp_calculus.specs.Term.{Term, Atom, index, atom, abs, app, apply, constant, integer, text, eigen, logic, param}
use Rattle.lp_calculus.specs.Convert.{same}
use Rattle.lp_calculus.specs.Fill.{Within, close, at_variables, indexed, abstracted}
use Rattle.lp_calculus.specs.Normal.{IsHead, eta_normal}
use Rattle.lp_calculus.proofs.Fills.{within_fill, within_more}
use Rattle.lp_calculus.proofs.Sigma.{subst, subst-index}
use Rattle.lp_calculus.proofs.Steps.{converts_on, converts_reduces, converts_abs, converts_fill, within_reduces}
use Rattle.lp_model.specs.Eigens.{eigen_of, as_eigen}
use Rattle.lp_model.specs.Look.{Look, rigid, flexible, looked, as_eigens, pattern_of, weak_step, top_normal}
use Rattle.lp_model.specs.Patterns.{eigens, member, chosen}
use Rattle.lp_model.specs.Scan.{Side, is_side, allows, allow, allows_head, Pattern, pattern, pattern_term, fits, Scanned, broken, whole, above, beside, scanned_pattern, renewal}
use Rattle.lp_lemmas.proofs.Booleans.{and_true_left, and_true_right}
use Rattle.lp_pattern.specs.Behind.{at_number}
use Rattle.lp_pattern.specs.Cleaning.{MayStand, IsClean, IsFit}
use Rattle.lp_pattern.specs.Scanning.{all_fit}
use Rattle.lp_pattern.specs.Stripping.{opens}
use Rattle.lp_pattern.specs.TopLooks.{top_look, scan_top, scan_seen, scan_tops}
use Rattle.lp_pattern.proofs.Cleans.{top_reduces, top_ended, View, as_abs, as_head, view, looked_head, EachClean, clean_none, clean_more, clean_like, clean_apply, eigens_of_pattern, clean_fits}
use Rattle.lp_pattern.proofs.Compares.{from_bind, from_map}
use Rattle.lp_unify_laws.proofs.Looks.{beta_reduces, eta_normal_is}
use Rattle.lp_pattern.proofs.Naming.{AreLeaves, weak_named, subst_apply}
use Rattle.lp_pattern.proofs.Opening.{opens_leaves, opens_none, opened_once}
use Rattle.lp_pattern.proofs.Stripped.{by_form}
use Rattle.lp_pattern.proofs.TopScans.{top_is}
use mathlib.Core.Path.{fun_ext}

-- each atom, with loose indices below a number
abbrev pub Any : Atom → Type 0
Any a = Unit {0}

abbrev WithinEach : ℕ → List Term → Type 0
WithinEach d [] = Unit {0}
WithinEach d (t ∷ ts) = Within Any d t × WithinEach d ts

within_parts : (d : ℕ) (ts : List Term) (h : Term) → Within Any d (apply h ts) → Within Any d h × WithinEach d ts
within_parts d [] h w = (w, tt)
within_parts d (t ∷ ts) h w = let k = within_parts d ts (app h t) w in (k.0.0, (k.0.1, k.1))

-- a look below abstractions that were opened
named_top : (σ : ℕ → Term) → AreLeaves σ → (n : ℕ) (t : Term) → top_normal n (subst σ t) ≡ option_map (subst σ) (top_normal n t)
named_top σ l zero t = refl
named_top σ l (suc n) t =
    ap (λ (o : Option Term). elim o as (λ z. Option Term) [ None ↦ Some (subst σ t) | Some s ↦ top_normal n s ]) (weak_named σ l t) ∙ go (weak_step t) (λ s. named_top σ l n s)
  where
    go : (o : Option Term) → ((s : Term) → top_normal n (subst σ s) ≡ option_map (subst σ) (top_normal n s)) →
        (elim (option_map (subst σ) o) as (λ z. Option Term) [ None ↦ Some (subst σ t) | Some s ↦ top_normal n s ]) ≡ option_map (subst σ) (elim o as (λ z. Option Term) [ None ↦ Some t | Some s ↦ top_normal n s ])
    go None f = refl
    go (Some s) f = f s

-- parts of what is whole
pub record Behind (q : Scanned) (ps : List Pattern) : Type 0 where
  pub units : ℕ
  pub is : q ≡ whole units false ps

or_first : (a b : Bool) → false ≡ (a || b) → a ≡ false
or_first true b e = absurd (cc)
or_first false b e = refl

or_second : (a b : Bool) → false ≡ (a || b) → b ≡ false
or_second true b e = absurd (cc)
or_second false b e = sym e

whole_units : (u v : ℕ) (d e : Bool) (ps qs : List Pattern) → whole u d ps ≡ whole v e qs → (d ≡ e) × (ps ≡ qs)
whole_units u v d e ps qs q = (cc, cc)

pub above_split : (a : Bool) (q : Scanned) (w : ℕ) (ps : List Pattern) → whole w false ps ≡ above a q → (a ≡ false) × Behind q ps
above_split a (broken u) w ps e = absurd (cc)
above_split a (whole u f qs) w ps e =
    let z = whole_units w (suc u) false (a || f) ps qs e in (or_first a f z.0, record { units = u; is = λ i. whole u (or_second a f z.0 i) (sym z.1 i) })

pub record Beside (u : ℕ) (d : Bool) (ps : List Pattern) (q : Scanned) (all : List Pattern) : Type 0 where
  pub first : d ≡ false
  pub others : List Pattern
  pub rest : Behind q others
  pub is : all ≡ ps ++ others

pub beside_split : (u : ℕ) (d : Bool) (ps : List Pattern) (q : Scanned) (w : ℕ) (all : List Pattern) → whole w false all ≡ beside u d ps q → Beside u d ps q all
beside_split u d ps (broken m) w all e = absurd (cc)
beside_split u d ps (whole m f qs) w all e =
    let z = whole_units w (u + m) false (d || f) all (ps ++ qs) e in
    record { first = or_first d f z.0; others = qs; rest = record { units = m; is = λ i. whole m (or_second d f z.0 i) qs }; is = z.1 }

pub fit_front : (s : Side) (ps qs : List Pattern) → all_fit s (ps ++ qs) ≡ true → all_fit s ps ≡ true
fit_front s [] qs e = refl
fit_front s (p ∷ ps) qs e = go (fits s p) e (fit_front s ps qs)
  where
    go : (b : Bool) → (b && all_fit s (ps ++ qs)) ≡ true → (all_fit s (ps ++ qs) ≡ true → all_fit s ps ≡ true) → (b && all_fit s ps) ≡ true
    go true x f = f x
    go false x f = absurd (cc)

pub fit_back : (s : Side) (ps qs : List Pattern) → all_fit s (ps ++ qs) ≡ true → all_fit s qs ≡ true
fit_back s [] qs e = e
fit_back s (p ∷ ps) qs e = fit_back s ps qs (and_true_right (fits s p) (all_fit s (ps ++ qs)) e)

-- a name that comes to an allowed eigenconstant
clean_name : (base : ℕ) (s : Side) (d k : ℕ) (y : Term) → Some k ≡ eigen_of (subst (opens base d) y) → allows s k ≡ true → IsClean s d y
clean_name base s d k (index i) e a = go (nat_lt i d) refl e
  where
    go : (b : Bool) → nat_lt i d ≡ b → Some k ≡ eigen_of (if b then atom (eigen (base + (d - i))) else index (i - d)) → IsClean s d (index i)
    go true q x = record { to = index i; converts = same (index i); within = (let z : i < d = grind (arith, nat_tests) in z) }
    go false q x = absurd (cc)
clean_name base s d k (atom (constant c us)) e a = absurd (cc)
clean_name base s d k (atom (integer z)) e a = absurd (cc)
clean_name base s d k (atom (text b)) e a = absurd (cc)
clean_name base s d k (atom (eigen j)) e a = let q : k ≡ j = cc in record { to = atom (eigen j); converts = same (atom (eigen j)); within = ap (allows s) (sym q) ∙ a }
clean_name base s d k (atom (logic x l)) e a = absurd (cc)
clean_name base s d k (atom (param j u)) e a = absurd (cc)
clean_name base s d k (abs b) e a = absurd (cc)
clean_name base s d k (app t u) e a = absurd (cc)

named_one : (limit base : ℕ) (s : Side) (d k : ℕ) (t : Term) → as_eigen limit (subst (opens base d) t) ≡ Some (Some k) → allows s k ≡ true → IsClean s d t
named_one limit base s d k t e a =
    let f = by_form (opens base d) (opens_leaves base d) limit t (Some k) e in
    clean_like s d (eta_normal f.0) t (converts_on (converts_reduces (beta_reduces limit t f.0 f.1)) (eta_normal_is f.0)) (clean_name base s d k (eta_normal f.0) f.2 a)

named_all : (limit base : ℕ) (s : Side) (d : ℕ) (ts : List Term) (b : List ℕ) → as_eigens limit (map (subst (opens base d)) ts) ≡ Some (Some b) → allow s b ≡ true → EachClean s d ts
named_all limit base s d [] b e a = clean_none
named_all limit base s d (t ∷ ts) b e a = let w = from_bind _ (as_eigen limit (subst (opens base d) t)) (Some b) e in go w.0 w.1 w.2 (λ js p y. named_all limit base s d ts js p y)
  where
    more : (k : ℕ) (p : Option (List ℕ)) → as_eigen limit (subst (opens base d) t) ≡ Some (Some k) → as_eigens limit (map (subst (opens base d)) ts) ≡ Some p → Some b ≡ option_map (λ ks. k ∷ ks) p →
        ((js : List ℕ) → as_eigens limit (map (subst (opens base d)) ts) ≡ Some (Some js) → allow s js ≡ true → EachClean s d ts) → EachClean s d (t ∷ ts)
    more k None q p x f = absurd (cc)
    more k (Some js) q p x f =
        let z : b ≡ k ∷ js = cc in
        let y : (allows s k && allow s js) ≡ true = ap (allow s) (sym z) ∙ a in
        clean_more (named_one limit base s d k t q (and_true_left (allows s k) (allow s js) y)) (f js p (and_true_right (allows s k) (allow s js) y))

    go : (o : Option ℕ) → as_eigen limit (subst (opens base d) t) ≡ Some o →
        (elim o as (λ z. Option (Option (List ℕ))) [ None ↦ Some None | Some k ↦ option_map (option_map (λ ks. k ∷ ks)) (as_eigens limit (map (subst (opens base d)) ts)) ]) ≡ Some (Some b) →
        ((js : List ℕ) → as_eigens limit (map (subst (opens base d)) ts) ≡ Some (Some js) → allow s js ≡ true → EachClean s d ts) → EachClean s d (t ∷ ts)
    go None q x f = absurd (cc)
    go (Some k) q x f = let w = from_map (option_map (λ ks. k ∷ ks)) (as_eigens limit (map (subst (opens base d)) ts)) (Some b) x in more k w.0 q w.1 w.2 f

-- patterns fit, or they stand inside a flexible term where what does not fit delays
abbrev pub MustFit : Side → Bool → List Pattern → Type 0
MustFit s true ps = Unit {0}
MustFit s false ps = all_fit s ps ≡ true

must_front : (s : Side) (inside : Bool) (ps qs : List Pattern) → MustFit s inside (ps ++ qs) → MustFit s inside ps
must_front s true ps qs h = tt
must_front s false ps qs h = fit_front s ps qs h

must_back : (s : Side) (inside : Bool) (ps qs : List Pattern) → MustFit s inside (ps ++ qs) → MustFit s inside qs
must_back s true ps qs h = tt
must_back s false ps qs h = fit_back s ps qs h

must_of : (s : Side) (inside : Bool) (ps : List Pattern) → all_fit s ps ≡ true → MustFit s inside ps
must_of s true ps h = tt
must_of s false ps h = h

-- patterns that fit
record Good (s : Side) (y m : ℕ) (b : List ℕ) : Type 0 where
  other : is_side s y m ≡ false
  low : nat_lt s.level m ≡ false
  allowed : allow s b ≡ true

not_false : (a : Bool) → not a ≡ false → a ≡ true
not_false true e = refl
not_false false e = absurd (cc)

good_pattern : (s : Side) (inside : Bool) (y m w : ℕ) (b : List ℕ) (ps : List Pattern) → scanned_pattern s inside y m b ≡ whole w false ps → MustFit s inside ps → Good s y m b
good_pattern s true y m w b ps e f =
    let z = whole_units 1 w (is_side s y m || nat_lt s.level m || not (allow s b)) false (pattern y m b ∷ []) ps e in
    let x = or_first (is_side s y m || nat_lt s.level m) (not (allow s b)) (sym z.0) in
    record {
      other = or_first (is_side s y m) (nat_lt s.level m) (sym x);
      low = or_second (is_side s y m) (nat_lt s.level m) (sym x);
      allowed = not_false (allow s b) (or_second (is_side s y m || nat_lt s.level m) (not (allow s b)) (sym z.0));
    }
good_pattern s false y m w b ps e f = go (is_side s y m) refl e
  where
    go : (c : Bool) → is_side s y m ≡ c → (if c then broken 1 else whole 1 false (pattern y m b ∷ [])) ≡ whole w false ps → Good s y m b
    go true q x = absurd (cc)
    go false q x =
        let z = whole_units 1 w false false (pattern y m b ∷ []) ps x in
        let v : (nat_le m s.level && allow s b) ≡ true = and_true_left (nat_le m s.level && allow s b) true (ap (all_fit s) z.1 ∙ f) in
        let k : nat_le m s.level ≡ true = and_true_left (nat_le m s.level) (allow s b) v in
        record { other = q; low = (let n : nat_lt s.level m ≡ false = grind (arith, nat_tests) in n); allowed = and_true_right (nat_le m s.level) (allow s b) v }

module _ (limit base : ℕ) (s : Side) where
  abbrev Cleans : ℕ → Type 0
  Cleans n = (inside : Bool) (d k : ℕ) (u : Term) → k ≡ base + d → Within Any d u → (w : ℕ) (ps : List Pattern) → scan_top limit n s inside k (subst (opens base d) u) ≡ Some (whole w false ps) → MustFit s inside ps → IsClean s d u

  abbrev CleanAll : ℕ → Type 0
  CleanAll n = (inside : Bool) (d k : ℕ) (us : List Term) → k ≡ base + d → WithinEach d us → (w : ℕ) (ps : List Pattern) → scan_tops limit n s inside k (map (subst (opens base d)) us) ≡ Some (whole w false ps) → MustFit s inside ps →
      EachClean s d us

  -- a rigid head
  pub rigid_whole : (n : ℕ) (inside : Bool) (k w : ℕ) (h : Term) (ts : List Term) (ps : List Pattern) → scan_seen limit n s inside k (rigid h ts) ≡ Some (whole w false ps) →
      (allows_head s h ≡ true) × ((u : ℕ) × (scan_tops limit n s inside k ts ≡ Some (whole u false ps)))
  rigid_whole n inside k w h ts ps e = go (allows_head s h) inside refl e
    where
      go : (a i : Bool) → allows_head s h ≡ a → (elim (a || i) as (λ z. Option Scanned) [ true ↦ option_map (above (not a)) (scan_tops limit n s inside k ts) | false ↦ Some (broken 1) ]) ≡ Some (whole w false ps) →
          (allows_head s h ≡ true) × ((u : ℕ) × (scan_tops limit n s inside k ts ≡ Some (whole u false ps)))
      go true i q x =
          let z = from_map (above false) (scan_tops limit n s inside k ts) (whole w false ps) x in
          let y = above_split false z.0 w ps z.2 in
          (q, (y.1.units, z.1 ∙ ap (λ v. Some v) y.1.is))
      go false true q x =
          let z = from_map (above true) (scan_tops limit n s inside k ts) (whole w false ps) x in
          let y = above_split true z.0 w ps z.2 in
          absurd (let v : true ≡ false = y.0 in cc)
      go false false q x = absurd (cc)

  -- a variable on arguments
  flexible_whole : (n : ℕ) (inside : Bool) (d k w y m : ℕ) (ts : List Term) (ps : List Pattern) → CleanAll n → k ≡ base + d → WithinEach d ts →
      scan_seen limit n s inside k (flexible y m (map (subst (opens base d)) ts)) ≡ Some (whole w false ps) → MustFit s inside ps → IsClean s d (apply (atom (logic y m)) ts)
  flexible_whole n inside d k w y m ts ps g l i e f = let z = from_bind _ (pattern_of limit m (map (subst (opens base d)) ts)) (whole w false ps) e in go z.0 z.1 z.2
    where
      go : (o : Option (List ℕ)) → pattern_of limit m (map (subst (opens base d)) ts) ≡ Some o → (elim o as (λ z. Option Scanned) [
        | Some b ↦ Some (scanned_pattern s inside y m b)
        | None ↦ option_map (above (is_side s y m || nat_lt s.level m)) (scan_tops limit n s true k (map (subst (opens base d)) ts))
      ]) ≡ Some (whole w false ps) → IsClean s d (apply (atom (logic y m)) ts)
      go (Some b) p x =
          let q : scanned_pattern s inside y m b ≡ whole w false ps = cc in
          let v = good_pattern s inside y m w b ps q f in
          clean_apply s d ts (atom (logic y m)) (record { to = atom (logic y m); converts = same (atom (logic y m)); within = (v.other, v.low) })
          (named_all limit base s d ts b (eigens_of_pattern limit m (map (subst (opens base d)) ts) b p) v.allowed)
      go None p x =
          let z = from_map (above (is_side s y m || nat_lt s.level m)) (scan_tops limit n s true k (map (subst (opens base d)) ts)) (whole w false ps) x in
          let v = above_split (is_side s y m || nat_lt s.level m) z.0 w ps z.2 in
          clean_apply s d ts (atom (logic y m))
          (record { to = atom (logic y m); converts = same (atom (logic y m)); within = (or_first (is_side s y m) (nat_lt s.level m) (sym v.0), or_second (is_side s y m) (nat_lt s.level m) (sym v.0)) })
          (g true d k ts l i v.1.units ps (z.1 ∙ ap (λ c. Some c) v.1.is) tt)

  on_head : (n : ℕ) (inside : Bool) (d k w : ℕ) (h h' : Term) (ts : List Term) (ps : List Pattern) → CleanAll n → k ≡ base + d → WithinEach d ts → (allows_head s h' ≡ true → IsClean s d h) →
      scan_seen limit n s inside k (rigid h' (map (subst (opens base d)) ts)) ≡ Some (whole w false ps) → MustFit s inside ps → IsClean s d (apply h ts)
  on_head n inside d k w h h' ts ps g l i c e f =
      let z = rigid_whole n inside k w h' (map (subst (opens base d)) ts) ps e in clean_apply s d ts h (c z.0) (g inside d k ts l i z.1.0 ps z.1.1 f)

  head_whole : (n : ℕ) (inside : Bool) (d k w : ℕ) (h : Term) (ts : List Term) (ps : List Pattern) → IsHead h → CleanAll n → k ≡ base + d → Within Any d h → WithinEach d ts →
      scan_seen limit n s inside k (looked (subst (opens base d) h) (map (subst (opens base d)) ts)) ≡ Some (whole w false ps) → MustFit s inside ps → IsClean s d (apply h ts)
  head_whole n inside d k w (index j) ts ps t g l x i e f = go (nat_lt j d) refl e
    where
      go : (b : Bool) → nat_lt j d ≡ b → scan_seen limit n s inside k (looked (if b then atom (eigen (base + (d - j))) else index (j - d)) (map (subst (opens base d)) ts)) ≡ Some (whole w false ps) → IsClean s d (apply (index j) ts)
      go true q v = on_head n inside d k w (index j) (atom (eigen (base + (d - j)))) ts ps g l i (λ a. record { to = index j; converts = same (index j); within = x }) v f
      go false q v = absurd (let z : nat_lt j d ≡ true = grind (arith, nat_tests) in let y : true ≡ false = sym z ∙ q in cc)
  head_whole n inside d k w (atom (constant c us)) ts ps t g l x i e f =
      on_head n inside d k w (atom (constant c us)) (atom (constant c us)) ts ps g l i (λ a. record { to = atom (constant c us); converts = same (atom (constant c us)); within = tt }) e f
  head_whole n inside d k w (atom (integer z)) ts ps t g l x i e f =
      on_head n inside d k w (atom (integer z)) (atom (integer z)) ts ps g l i (λ a. record { to = atom (integer z); converts = same (atom (integer z)); within = tt }) e f
  head_whole n inside d k w (atom (text b)) ts ps t g l x i e f =
      on_head n inside d k w (atom (text b)) (atom (text b)) ts ps g l i (λ a. record { to = atom (text b); converts = same (atom (text b)); within = tt }) e f
  head_whole n inside d k w (atom (eigen j)) ts ps t g l x i e f =
      on_head n inside d k w (atom (eigen j)) (atom (eigen j)) ts ps g l i (λ a. record { to = atom (eigen j); converts = same (atom (eigen j)); within = a }) e f
  head_whole n inside d k w (atom (logic y m)) ts ps t g l x i e f = flexible_whole n inside d k w y m ts ps g l i e f
  head_whole n inside d k w (atom (param j u)) ts ps t g l x i e f =
      on_head n inside d k w (atom (param j u)) (atom (param j u)) ts ps g l i (λ a. record { to = atom (param j u); converts = same (atom (param j u)); within = tt }) e f
  head_whole n inside d k w (abs b) ts ps t g l x i e f = absurd t
  head_whole n inside d k w (app h u) ts ps t g l x i e f = absurd t

  view_whole : (n : ℕ) (inside : Bool) (d k w : ℕ) (x : Term) (ps : List Pattern) → View x → Cleans n → CleanAll n → k ≡ base + d → Within Any d x →
      scan_seen limit n s inside k (looked (subst (opens base d) x) []) ≡ Some (whole w false ps) → MustFit s inside ps → IsClean s d x
  view_whole n inside d k w x ps (as_abs b q) c g l i e f =
      let h = c inside (suc d) (suc k) b (omega (arith, l)) (transport (Within Any d) q i) w ps
      (ap (scan_top limit n s inside (suc k)) (sym (opened_once base d k b l)) ∙ ap (λ y. scan_seen limit n s inside k (looked (subst (opens base d) y) [])) (sym q) ∙ e) f in
      transport (IsClean s d) (sym q) (record { to = abs h.to; converts = converts_abs h.converts; within = h.within })
  view_whole n inside d k w x ps (as_head h ts t q) c g l i e f =
      let p = within_parts d ts h (transport (Within Any d) q i) in
      transport (IsClean s d) (sym q)
      (head_whole n inside d k w h ts ps t g l p.0 p.1
      (ap (scan_seen limit n s inside k)
      (sym (ap (λ y. looked (subst (opens base d) y) []) q ∙ ap (λ y. looked y []) (subst_apply (opens base d) ts h) ∙ looked_head (subst (opens base d) h) (map (subst (opens base d)) ts))) ∙ e)
      f)

  pair_whole : (n : ℕ) (inside : Bool) (d k w : ℕ) (u : Term) (us : List Term) (ps : List Pattern) (x : Scanned) → ((v : ℕ) (qs : List Pattern) → x ≡ whole v false qs → MustFit s inside qs → IsClean s d u) →
      ((v : ℕ) (qs : List Pattern) → scan_tops limit n s inside k (map (subst (opens base d)) us) ≡ Some (whole v false qs) → MustFit s inside qs → EachClean s d us) →
      (elim x as (λ z. Option Scanned) [ broken v ↦ Some (broken v) | whole v c qs ↦ option_map (beside v c qs) (scan_tops limit n s inside k (map (subst (opens base d)) us)) ]) ≡ Some (whole w false ps) → MustFit s inside ps → EachClean s d (u ∷ us)
  pair_whole n inside d k w u us ps (broken v) h g e f = absurd (cc)
  pair_whole n inside d k w u us ps (whole v c qs) h g e f =
      let z = from_map (beside v c qs) (scan_tops limit n s inside k (map (subst (opens base d)) us)) (whole w false ps) e in
      let y = beside_split v c qs z.0 w ps z.2 in
      let a : MustFit s inside (qs ++ y.others) = transport (MustFit s inside) y.is f in
      clean_more (h v qs (λ i. whole v (y.first i) qs) (must_front s inside qs y.others a)) (g y.rest.units y.others (z.1 ∙ ap (λ b. Some b) y.rest.is) (must_back s inside qs y.others a))

  mutual
    pub whole_clean : (n : ℕ) → Cleans n
    whole_clean zero inside d k u l i w ps e f = absurd (cc)
    whole_clean (suc n) inside d k u l i w ps e f =
        let v = from_bind (scan_seen limit n s inside k) (top_look limit (subst (opens base d) u)) (whole w false ps) (sym (top_is limit n s inside k (subst (opens base d) u)) ∙ e) in
        let x = from_map (λ y. looked y []) (top_normal limit (subst (opens base d) u)) v.0 v.1 in
        let y = from_map (subst (opens base d)) (top_normal limit u) x.0 (sym (named_top (opens base d) (opens_leaves base d) limit u) ∙ x.1) in
        let r = top_reduces limit u y.0 y.1 in
        clean_like s d y.0 u (converts_reduces r)
        (view_whole n inside d k w y.0 ps (view y.0 [] (top_ended limit u y.0 y.1)) (whole_clean n) (whole_all_clean n) l (within_reduces Any d r i)
        (ap (scan_seen limit n s inside k) (sym (x.2 ∙ ap (λ z. looked z []) y.2)) ∙ v.2) f)

    pub whole_all_clean : (n : ℕ) → CleanAll n
    whole_all_clean zero inside d k us l i w ps e f = absurd (cc)
    whole_all_clean (suc n) inside d k [] l i w ps e f = clean_none
    whole_all_clean (suc n) inside d k (u ∷ us) l i w ps e f =
        let v = from_bind _ (scan_top limit n s inside k (subst (opens base d) u)) (whole w false ps) e in
        pair_whole n inside d k w u us ps v.0 (λ a qs q b. whole_clean n inside d k u l i.0 a qs (v.1 ∙ ap (λ c. Some c) q) b) (λ a qs q b. whole_all_clean n inside d k us l i.1 a qs q b) v.2 f

-- a term without loose indices, where none is open
pub scanned_clean : (limit n : ℕ) (s : Side) (inside : Bool) (k : ℕ) (t : Term) (w : ℕ) (ps : List Pattern) → Within Any 0 t → scan_top limit n s inside k t ≡ Some (whole w false ps) → MustFit s inside ps → IsClean s 0 t
scanned_clean limit n s inside k t w ps i e f =
    whole_clean limit k s n inside 0 k t (omega arith) i w ps (ap (scan_top limit n s inside k) (ap (λ σ. subst σ t) (fun_ext (opens_none k)) ∙ subst-index t) ∙ e) f

-- what stands in a variable that is no pattern fits, for else it delays
pub open_clean : (limit n : ℕ) (s : Side) (k w y m : ℕ) (t : Term) (ts : List Term) (ps : List Pattern) → Within Any 0 t → ((v : Look) → top_look limit t ≡ Some v → v ≡ flexible y m ts) →
    ((o : Option (List ℕ)) → pattern_of limit m ts ≡ Some o → o ≡ None) → scan_top limit n s false k t ≡ Some (whole w false ps) → IsClean s 0 t
open_clean limit zero s k w y m t ts ps i h o e = absurd (cc)
open_clean limit (suc n) s k w y m t ts ps i h o e =
    let v = from_bind (scan_seen limit n s false k) (top_look limit t) (whole w false ps) (sym (top_is limit n s false k t) ∙ e) in
    let q = h v.0 v.1 in
    let x = from_bind _ (pattern_of limit m ts) (whole w false ps) (ap (scan_seen limit n s false k) (sym q) ∙ v.2) in
    inside_clean x.0 x.1 x.2
  where
    inside_clean : (p : Option (List ℕ)) → pattern_of limit m ts ≡ Some p → (elim p as (λ z. Option Scanned) [
      | Some b ↦ Some (scanned_pattern s false y m b)
      | None ↦ option_map (above (is_side s y m || nat_lt s.level m)) (scan_tops limit n s true k ts)
    ]) ≡ Some (whole w false ps) → IsClean s 0 t
    inside_clean (Some b) p x = absurd (let z : Some b ≡ None = o (Some b) p in cc)
    inside_clean None p x = scanned_clean limit (suc n) s true k t w ps i
        (top_is limit n s true k t ∙ ap (option_and_then (scan_seen limit n s true k)) (open_look) ∙ open_seen p x) tt
      where
        open_at : (z : Option Look) → top_look limit t ≡ z → top_look limit t ≡ Some (flexible y m ts)
        open_at None q = absurd (let c : None ≡ Some (whole w false ps) = sym (top_is limit n s false k t ∙ ap (option_and_then (scan_seen limit n s false k)) q) ∙ e in cc)
        open_at (Some z) q = q ∙ ap (λ c. Some c) (h z q)

        open_look : top_look limit t ≡ Some (flexible y m ts)
        open_look = open_at (top_look limit t) refl

        open_seen : pattern_of limit m ts ≡ Some None → option_map (above (is_side s y m || nat_lt s.level m)) (scan_tops limit n s true k ts) ≡ Some (whole w false ps) → scan_seen limit n s true k (flexible y m ts) ≡ Some (whole w false ps)
        open_seen p x = ap (option_and_then (λ c. elim c as (λ z. Option Scanned) [
          | Some b ↦ Some (scanned_pattern s true y m b)
          | None ↦ option_map (above (is_side s y m || nat_lt s.level m)) (scan_tops limit n s true k ts)
        ])) p ∙ x

-- a term of atoms that may stand is put for a variable
put_stands : (s : Side) (y : ℕ) (v : Term) → Within (MayStand s) 0 v → (d : ℕ) (a : Atom) → MayStand s a → Within (MayStand s) 0 (at_variables (at_number y v) a)
put_stands s y v h d (constant c us) w = w
put_stands s y v h d (integer z) w = w
put_stands s y v h d (text b) w = w
put_stands s y v h d (eigen k) w = w
put_stands s y v h d (logic x l) w = go (nat_eq x y)
  where
    go : (b : Bool) → Within (MayStand s) 0 (if b then v else atom (logic x l))
    go true = h
    go false = w
put_stands s y v h d (param k u) w = w

pub clean_put : (s : Side) (y : ℕ) (v t : Term) → Within (MayStand s) 0 v → IsClean s 0 t → IsClean s 0 (close (at_number y v) t)
clean_put s y v t h c = record {
  to = close (at_number y v) c.to;
  converts = converts_fill (at_variables (at_number y v)) c.converts;
  within = within_fill (MayStand s) (MayStand s) (at_variables (at_number y v)) 0 (put_stands s y v h 0) c.to c.within;
}

-- what was scanned whole and fit is so still
pub stays_fit : (limit n limit' n' : ℕ) (s : Side) (inside inside' : Bool) (y : ℕ) (v t : Term) (w : ℕ) (ps : List Pattern) → Within Any 0 t → Within (MayStand s) 0 v → scan_top limit n s inside s.pair t ≡ Some (whole w false ps) →
    all_fit s ps ≡ true → (r : Scanned) → scan_top limit' n' s inside' s.pair (close (at_number y v) t) ≡ Some r → IsFit s r
stays_fit limit n limit' n' s inside inside' y v t w ps i h e f r q =
    clean_fits limit' s n' inside' s.pair (close (at_number y v) t) (omega arith) (clean_put s y v t h (scanned_clean limit n s inside s.pair t w ps i e (must_of s inside ps f))) r q

-- the value of a renewal
within_abstraction : (s : Side) (c : ℕ) (a : Atom) → MayStand s a → Within (MayStand s) 1 (indexed c a)
within_abstraction s c (constant j us) w = w
within_abstraction s c (integer z) w = w
within_abstraction s c (text b) w = w
within_abstraction s c (eigen k) w = go (nat_eq k c)
  where
    go : (b : Bool) → Within (MayStand s) 1 (if b then index 0 else atom (eigen k))
    go true = omega arith
    go false = w
within_abstraction s c (logic x l) w = w
within_abstraction s c (param k u) w = w

within_abstracted : (s : Side) (cs : List ℕ) (t : Term) → Within (MayStand s) 0 t → Within (MayStand s) 0 (abstracted cs t)
within_abstracted s [] t w = w
within_abstracted s (c ∷ cs) t w = within_fill (MayStand s) (MayStand s) (indexed c) 1 (within_abstraction s c) (abstracted cs t)
    (within_more (MayStand s) (MayStand s) 0 1 (λ a p. p) (omega arith) (abstracted cs t) (within_abstracted s cs t w))

within_pattern : (s : Side) (cs : List ℕ) (h : Term) → Within (MayStand s) 0 h → allow s cs ≡ true → Within (MayStand s) 0 (apply h (eigens cs))
within_pattern s [] h w e = w
within_pattern s (c ∷ cs) h w e = within_pattern s cs (app h (atom (eigen c))) (w, and_true_left (allows s c) (allow s cs) e) (and_true_right (allows s c) (allow s cs) e)

allow_both : (s : Side) (xs ys : List ℕ) → allow s xs ≡ true → allow s ys ≡ true → allow s (xs ++ ys) ≡ true
allow_both s [] ys e f = f
allow_both s (x ∷ xs) ys e f = go (allows s x) e (λ q. allow_both s xs ys q f)
  where
    go : (b : Bool) → (b && allow s xs) ≡ true → (allow s xs ≡ true → allow s (xs ++ ys) ≡ true) → (b && allow s (xs ++ ys)) ≡ true
    go true q g = g q
    go false q g = absurd (cc)

allow_chosen : (s : Side) (p : ℕ → Bool) (ks : List ℕ) → ((k : ℕ) → member k ks ≡ true → p k ≡ true → allows s k ≡ true) → allow s (chosen p ks) ≡ true
allow_chosen s p [] h = refl
allow_chosen s p (k ∷ ks) h = go (p k) refl (allow_chosen s p ks (λ j m q. h j (behind j m) q))
  where
    behind : (j : ℕ) → member j ks ≡ true → (nat_eq j k || member j ks) ≡ true
    behind j m = ap (λ b. nat_eq j k || b) m ∙ last (nat_eq j k)
      where
        last : (b : Bool) → (b || true) ≡ true
        last true = refl
        last false = refl

    here : member k (k ∷ ks) ≡ true
    here = let e : nat_eq k k ≡ true = grind (arith, nat_tests) in ap (λ b. b || member k ks) e

    go : (b : Bool) → p k ≡ b → allow s (chosen p ks) ≡ true → allow s (if b then k ∷ chosen p ks else chosen p ks) ≡ true
    go true q ih = (λ i. h k here q i && ih i)
    go false q ih = ih

of_arguments : (s : Side) (k : ℕ) → member k s.arguments ≡ true → allows s k ≡ true
of_arguments s k m = ap (λ b. nat_le k s.level || b || nat_lt s.pair k) m ∙ go (nat_le k s.level)
  where
    go : (b : Bool) → (b || true || nat_lt s.pair k) ≡ true
    go true = refl
    go false = refl

pub renewal_stands : (s : Side) (next : ℕ) (p : Pattern) → nat_eq next s.id ≡ false → Within (MayStand s) 0 (renewal s next p).value
renewal_stands s next p e =
    let n : nat_lt s.level (min s.level p.level) ≡ false = grind (arith, nat_tests) in
    within_abstracted s p.arguments (pattern_term (pattern next (min s.level p.level) (chosen (λ k. nat_le k p.level) s.arguments ++ chosen (allows s) p.arguments)))
    (within_pattern s (chosen (λ k. nat_le k p.level) s.arguments ++ chosen (allows s) p.arguments) (atom (logic next (min s.level p.level))) (ap (λ b. b && nat_eq (min s.level p.level) s.level) e, n)
    (allow_both s (chosen (λ k. nat_le k p.level) s.arguments) (chosen (allows s) p.arguments) (allow_chosen s (λ k. nat_le k p.level) s.arguments (λ k m q. of_arguments s k m))
    (allow_chosen s (allows s) p.arguments (λ k m q. q))))
