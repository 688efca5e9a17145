-- Where a solution makes the other side clean it makes each pattern clean; and where each pattern fits, the side itself comes to a fit term.
use Rattle.std.proofs.Common.{◌≡◌, ℕ, suc, ◌<◌, ◌≤◌, List, [], ◌∷◌, ◌++◌, refl, sym, subst as transport, arith, Bool, true, false, ◌||◌, ◌⊎◌, inl, inr}
use Rattle.std.specs.Prelude.{nat_lt, nat_le}
use Rattle.std.proofs.lemmas.Bool.Decides.{nat_tests}
use Rattle.lp_calculus.specs.Term.{Term, index, atom, abs, app, apply, Atom, constant, integer, text, eigen, logic, param}
use Rattle.lp_calculus.specs.Convert.{Converts, same, ConvertAll, convert_none, convert_more}
use Rattle.lp_calculus.specs.Fill.{Within, close, at_variables, abstraction}
use Rattle.lp_model.specs.Patterns.{eigens, member}
use Rattle.lp_unify_laws.specs.Levels.{IsClosing, IsLevelAtom}
use Rattle.lp_model.specs.Scan.{Side, is_side, allows, allow, allows_head, Pattern, pattern, pattern_term, fits}
use Rattle.lp_calculus.proofs.Fills.{within_more}
use Rattle.lp_calculus.proofs.Steps.{converts_on, converts_sym, converts_reduces, converts_is, converts_app, converts_fill}
use Rattle.lp_unify_laws.proofs.Abstractions.{Not, abstraction_eta, converts_abstraction, within_abstraction, close_pattern}
use Rattle.lp_unify_laws.proofs.Looks.{converts_spine}
use Rattle.lp_calculus.proofs.Rigid.{IsRigid, EachReaches, reaches_none, reaches_more, rigid_reaches}
use Rattle.lp_unify_laws.proofs.Sames.{both}
use Rattle.lp_unify_laws.proofs.Closings.{WithinAll, within_apply, apply_within, close_all}
use Rattle.lp_unify_laws.proofs.Plainly.{close_seen_rigid}
use Rattle.lp_unify_laws.proofs.Scans.{Seen, IsOther, Scans, ScansAll, scans_abs, scans_rigid, scans_pattern, scans_flexible, scans_none, scans_more, open_converts}

-- closed, with allowed eigenconstants alone
abbrev pub Clean : Side → Atom → Type 0
Clean s (eigen j) = allows s j ≡ true
Clean s (logic x l) = ⊥
Clean s (constant c ts) = Unit {0}
Clean s (integer z) = Unit {0}
Clean s (text t) = Unit {0}
Clean s (param i t) = Unit {0}

pub record IsClean (s : Side) (t : Term) : Type 0 where
  pub to : Term
  pub converts : Converts t to
  pub within : Within (Clean s) 0 to

pub clean_like : {s : Side} {t u : Term} → Converts u t → IsClean s t → IsClean s u
clean_like c h = record { to = h.to; converts = converts_on c h.converts; within = h.within }

-- each pattern is one of another variable, and is clean under the closing
pub record CleanPattern (s : Side) (next : ℕ) (σ : ℕ → ℕ → Term) (p : Pattern) : Type 0 where
  pub last : ℕ
  pub above : s.pair ≤ last
  pub other : IsOther s next last p.id p.level p.arguments
  pub clean : IsClean s (close σ (pattern_term p))

pub data EachClean (s : Side) (next : ℕ) (σ : ℕ → ℕ → Term) : List Pattern → Type 0 where
  clean_none : EachClean s next σ []
  clean_more : {p : Pattern} {ps : List Pattern} → CleanPattern s next σ p → EachClean s next σ ps → EachClean s next σ (p ∷ ps)

clean_append : {s : Side} {next : ℕ} {σ : ℕ → ℕ → Term} {ps qs : List Pattern} → EachClean s next σ ps → EachClean s next σ qs → EachClean s next σ (ps ++ qs)
clean_append clean_none d = d
clean_append (clean_more h c) d = clean_more h (clean_append c d)

pub allows_local : (s : Side) (k : ℕ) → s.pair ≤ k → allows s (suc k) ≡ true
allows_local s k h = let p : nat_lt s.pair (suc k) ≡ true = grind (arith, nat_tests) in third (nat_le (suc k) s.level) (member (suc k) s.arguments) (nat_lt s.pair (suc k)) p
  where
    third : (a b c : Bool) → c ≡ true → (a || b || c) ≡ true
    third true b c h = refl
    third false true c h = refl
    third false false c h = h

allows_low : (s : Side) (k m : ℕ) → k ≤ m → nat_lt s.level m ≡ false → allows s k ≡ true
allows_low s k m h l =
    let q : m ≤ s.level = grind (arith, nat_tests) in
    let p : nat_le k s.level ≡ true = grind (arith, nat_tests) in first (nat_le k s.level) (member k s.arguments) (nat_lt s.pair k) p
  where
    first : (a b c : Bool) → a ≡ true → (a || b || c) ≡ true
    first true b c h = refl
    first false b c h = absurd (cc)

closed_clean : (s : Side) (m : ℕ) → nat_lt s.level m ≡ false → (a : Atom) → IsLevelAtom m a → Clean s a
closed_clean s m l (eigen j) p = allows_low s j m p l
closed_clean s m l (logic x i) p = p
closed_clean s m l (constant c ts) p = tt
closed_clean s m l (integer z) p = tt
closed_clean s m l (text t) p = tt
closed_clean s m l (param i t) p = tt

pub allowed_each : (s : Side) (b : List ℕ) → allow s b ≡ true → WithinAll (Clean s) (eigens b)
allowed_each s [] h = tt
allowed_each s (k ∷ b) h = let r = both (allows s k) (allow s b) h in (r.0, allowed_each s b r.1)

-- a pattern that stands inside a flexible non-pattern, where nothing is delayed
inside_clean : (s : Side) (σ : ℕ → ℕ → Term) (y m : ℕ) (b : List ℕ) → IsClosing σ → nat_lt s.level m ≡ false → allow s b ≡ true → IsClean s (close σ (pattern_term (pattern y m b)))
inside_clean s σ y m b c l h = record {
  to = apply (σ y m) (eigens b);
  converts = converts_is (close_pattern σ (atom (logic y m)) b);
  within = apply_within (Clean s) (eigens b) (σ y m) (within_more (IsLevelAtom m) (Clean s) 0 0 (closed_clean s m l) (omega arith) (σ y m) (c.closed y m)) (allowed_each s b h);
}

abbrev pub EachIsClean : Side → List Term → Type 0
EachIsClean s [] = Unit {0}
EachIsClean s (t ∷ ts) = IsClean s t × EachIsClean s ts

pub reaches_clean : (s : Side) {ts : List Term} → EachReaches (Clean s) ts → EachIsClean s ts
reaches_clean s reaches_none = tt
reaches_clean s (reaches_more u r w all) = (record { to = u; converts = converts_reduces r; within = w }, reaches_clean s all)

mutual
  pub clean_patterns : (s : Side) (next : ℕ) (σ : ℕ → ℕ → Term) → IsClosing σ → {inside : Bool} {k : ℕ} {t : Term} {ps : List Pattern} → Scans s next inside k t ps → s.pair ≤ k → (inside ≡ true) ⊎ IsClean s (close σ t) → EachClean s next σ ps
  clean_patterns s next σ c (scans_abs {k = k} {t = t} u w e d) l (inl i) = clean_patterns s next σ c d (omega arith) (inl i)
  clean_patterns s next σ c (scans_abs {k = k} {t = t} u w e d) l (inr h) =
      clean_patterns s next σ c d (omega arith) (inr (record {
        to = app h.to (atom (eigen (suc k)));
        converts = converts_on (converts_sym (converts_fill (at_variables σ) (open_converts (suc k) t u e))) (converts_app h.converts (same (atom (eigen (suc k)))));
        within = (h.within, allows_local s k l);
      }))
  clean_patterns s next σ c (scans_rigid h ts w e r a d) l (inl i) = clean_all s next σ c d l (inl i)
  clean_patterns s next σ c (scans_rigid {t = t} h ts w e r a d) l (inr z) =
      let q = rigid_reaches (Clean s) h (close_all σ ts) z.to r (converts_on (converts_sym (close_seen_rigid σ t h ts r (converts_reduces e))) z.converts) z.within in
      clean_all s next σ c d l (inr (reaches_clean s q.1))
  clean_patterns s next σ c (scans_pattern {k = k} y m b e o f) l (inl i) =
      let g = f i in
      clean_more (record { last = k; above = l; other = o; clean = inside_clean s σ y m b c g.0 g.1 }) clean_none
  clean_patterns s next σ c (scans_pattern {k = k} y m b e o f) l (inr h) =
      clean_more (record { last = k; above = l; other = o; clean = clean_like (converts_sym (converts_fill (at_variables σ) (converts_reduces e))) h }) clean_none
  clean_patterns s next σ c (scans_flexible y m ts e w o f d) l h = clean_all s next σ c d l (inl refl)

  pub clean_all : (s : Side) (next : ℕ) (σ : ℕ → ℕ → Term) → IsClosing σ → {inside : Bool} {k : ℕ} {ts : List Term} {ps : List Pattern} → ScansAll s next inside k ts ps → s.pair ≤ k → (inside ≡ true) ⊎ EachIsClean s (close_all σ ts) → EachClean s next σ ps
  clean_all s next σ c scans_none l h = clean_none
  clean_all s next σ c (scans_more ps qs e d ds) l (inl i) = transport (EachClean s next σ) (sym e) (clean_append (clean_patterns s next σ c d l (inl i)) (clean_all s next σ c ds l (inl i)))
  clean_all s next σ c (scans_more ps qs e d ds) l (inr h) = transport (EachClean s next σ) (sym e) (clean_append (clean_patterns s next σ c d l (inr h.0)) (clean_all s next σ c ds l (inr h.1)))

-- allowed eigenconstants up to k, and other variables of levels up to the side's
abbrev pub Fit : Side → (next k : ℕ) → Atom → Type 0
Fit s next k (eigen j) = (allows s j ≡ true) × (j ≤ k)
Fit s next k (logic y m) = (y < next) × (m ≤ s.level) × (is_side s y m ≡ false)
Fit s next k (constant c ts) = Unit {0}
Fit s next k (integer z) = Unit {0}
Fit s next k (text t) = Unit {0}
Fit s next k (param i t) = Unit {0}

pub record IsFit (s : Side) (next k : ℕ) (t : Term) : Type 0 where
  pub to : Term
  pub converts : Converts t to
  pub within : Within (Fit s next k) 0 to

abbrev pub EachFits : Side → List Pattern → Type 0
EachFits s [] = Unit {0}
EachFits s (p ∷ ps) = (fits s p ≡ true) × EachFits s ps

fits_split : (s : Side) (ps qs : List Pattern) → EachFits s (ps ++ qs) → EachFits s ps × EachFits s qs
fits_split s [] qs h = (tt, h)
fits_split s (p ∷ ps) qs h = let r = fits_split s ps qs h.1 in ((h.0, r.0), r.1)

fit_eigens : (s : Side) (next k : ℕ) (b : List ℕ) → allow s b ≡ true → WithinAll (Seen next s.pair k) (eigens b) → WithinAll (Fit s next k) (eigens b)
fit_eigens s next k [] h w = tt
fit_eigens s next k (j ∷ b) h w = let r = both (allows s j) (allow s b) h in ((r.0, w.0), fit_eigens s next k b r.1 w.1)

seen_not : (next p k : ℕ) (a : Atom) → Seen next p k a → Not (suc k) a
seen_not next p k (eigen j) h = λ e. omega arith
seen_not next p k (logic x l) h = tt
seen_not next p k (constant c ts) h = tt
seen_not next p k (integer z) h = tt
seen_not next p k (text t) h = tt
seen_not next p k (param i t) h = tt

fit_less : (s : Side) (next k : ℕ) (a : Atom) → Fit s next (suc k) a → Not (suc k) a → Fit s next k a
fit_less s next k (eigen j) h n = let q : j ≤ suc k = h.1 in let r : j ≤ k = omega arith in (h.0, r)
fit_less s next k (logic x l) h n = h
fit_less s next k (constant c ts) h n = tt
fit_less s next k (integer z) h n = tt
fit_less s next k (text t) h n = tt
fit_less s next k (param i t) h n = tt

fit_head : (s : Side) (next k : ℕ) (h : Term) → IsRigid h → allows_head s h ≡ true → Within (Seen next s.pair k) 0 h → Within (Fit s next k) 0 h
fit_head s next k (index i) r a w = w
fit_head s next k (atom (logic x l)) r a w = absurd r
fit_head s next k (atom (constant c ts)) r a w = tt
fit_head s next k (atom (integer z)) r a w = tt
fit_head s next k (atom (text t)) r a w = tt
fit_head s next k (atom (eigen j)) r a w = (a, w)
fit_head s next k (atom (param i t)) r a w = tt
fit_head s next k (abs b) r a w = absurd r
fit_head s next k (app t u) r a w = absurd r

pub record AreFit (s : Side) (next k : ℕ) (ts : List Term) : Type 0 where
  pub to : List Term
  pub converts : ConvertAll ts to
  pub within : WithinAll (Fit s next k) to

mutual
  pub fit_term : (s : Side) (next : ℕ) → {inside : Bool} {k : ℕ} {t : Term} {ps : List Pattern} → Scans s next inside k t ps → EachFits s ps → IsFit s next k t
  fit_term s next (scans_abs {k = k} {t = t} u w e d) f =
      let r = fit_term s next d f in
      record {
        to = abstraction (suc k) r.to;
        converts = converts_on (converts_sym (abstraction_eta (suc k) t (within_more (Seen next s.pair k) (Not (suc k)) 0 0 (seen_not next s.pair k) (omega arith) t w)))
            (converts_abstraction (suc k) (converts_on (open_converts (suc k) t u e) r.converts));
        within = within_abstraction (Fit s next (suc k)) (Fit s next k) (suc k) (fit_less s next k) r.to r.within;
      }
  fit_term s next (scans_rigid {k = k} h ts w e r a d) f =
      let z = fit_terms s next d f in
      record {
        to = apply h z.to;
        converts = converts_on (converts_reduces e) (converts_spine z.converts (same h));
        within = apply_within (Fit s next k) z.to h (fit_head s next k h r a w) z.within;
      }
  fit_term s next (scans_pattern {k = k} y m b e o g) f =
      let z = both (nat_le m s.level) (allow s b) f.0 in
      let v = within_parts o.within in
      let low : m ≤ s.level = grind (arith, nat_tests) in
      record {
        to = pattern_term (pattern y m b);
        converts = converts_reduces e;
        within = apply_within (Fit s next k) (eigens b) (atom (logic y m)) (v.0.0, low, o.other) (fit_eigens s next k b z.1 v.1);
      }
    where
      within_parts : Within (Seen next s.pair k) 0 (apply (atom (logic y m)) (eigens b)) → Within (Seen next s.pair k) 0 (atom (logic y m)) × WithinAll (Seen next s.pair k) (eigens b)
      within_parts h = within_apply (Seen next s.pair k) (eigens b) (atom (logic y m)) h
  fit_term s next (scans_flexible {k = k} y m ts e w o g d) f =
      let z = fit_terms s next d f in
      let low : m ≤ s.level = grind (arith, nat_tests) in
      record {
        to = apply (atom (logic y m)) z.to;
        converts = converts_on (converts_reduces e) (converts_spine z.converts (same (atom (logic y m))));
        within = apply_within (Fit s next k) z.to (atom (logic y m)) (w.0, low, o) z.within;
      }

  pub fit_terms : (s : Side) (next : ℕ) → {inside : Bool} {k : ℕ} {ts : List Term} {ps : List Pattern} → ScansAll s next inside k ts ps → EachFits s ps → AreFit s next k ts
  fit_terms s next scans_none f = record { to = []; converts = convert_none; within = tt }
  fit_terms s next (scans_more ps qs e d ds) f =
      let g = fits_split s ps qs (transport (EachFits s) e f) in
      let r = fit_term s next d g.0 in
      let z = fit_terms s next ds g.1 in
      record { to = r.to ∷ z.to; converts = convert_more r.converts z.converts; within = (r.within, z.within) }
