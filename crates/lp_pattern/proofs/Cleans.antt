-- A scan finds a term whole and fit exactly where it converts to one of atoms that may stand; so it stays whole and fit where a term of such atoms is put for a variable.
use Rattle.std.proofs.Common.{◌≡◌, ℕ, zero, suc, ◌<◌, ◌≤◌, List, [], ◌∷◌, ◌++◌, ◌∙◌, refl, sym, ap, subst as transport, arith, Bool, true, false, Option, Some, None, ◌||◌, if◌then◌else◌}
use Rattle.std.specs.Prelude.{option_map, not, nat_lt, nat_le, ◌&&◌}
use Rattle.std.proofs.lemmas.Bool.Decides.{nat_tests}
use Rattle.std.proofs.lemmas.List.{append-nil}
use Rattle.lp_calculus.specs.Term.{Term, index, atom, abs, app, apply, substitute, constant, integer, text, eigen, logic, param}
use Rattle.lp_calculus.specs.Convert.{Converts, same, ConvertAll, convert_more, ReducesTo, done, then_step, here, by_beta}
use Rattle.lp_calculus.specs.Fill.{Within}
use Rattle.lp_calculus.specs.Normal.{IsHead}
use Rattle.lp_calculus.proofs.Rigid.{EachReaches, reaches_more, head_reaches}
use Rattle.lp_calculus.proofs.Steps.{converts_on, converts_sym, converts_step, converts_reduces, converts_app}
use Rattle.lp_model.specs.Look.{rigid, flexible, looked, as_eigens, only_if, pattern_of, are_distinct, are_above, weak_step, top_normal}
use Rattle.lp_model.specs.Patterns.{eigens, member}
use Rattle.lp_model.specs.Scan.{Side, is_side, allows, allow, allows_head, Pattern, pattern, fits, Scanned, broken, whole, above, beside, scanned_pattern}
use Rattle.std.proofs.lemmas.Bool.{and_from}
use Rattle.lp_pattern.specs.Cleaning.{MayStand, IsClean, IsFit}
use Rattle.lp_pattern.specs.Scanning.{all_fit}
use Rattle.lp_pattern.specs.TopLooks.{top_look, scan_top, scan_seen, scan_tops}
use Rattle.lp_pattern.proofs.BetaForms.{weak_leftmost}
use Rattle.lp_pattern.proofs.Compares.{from_bind, from_map}
use Rattle.lp_unify_laws.proofs.Looks.{leftmost_steps, as_eigens_is}
use Rattle.lp_pattern.proofs.Looking.{weak_apply, looked_apply}
use Rattle.lp_pattern.proofs.TopScans.{top_is}

-- a look at the top
pub top_reduces : (n : ℕ) (t s : Term) → top_normal n t ≡ Some s → ReducesTo t s
top_reduces zero t s e = absurd (cc)
top_reduces (suc n) t s e = elim (weak_step t) as (λ o. weak_step t ≡ o → (elim o [ None ↦ Some t | Some r ↦ top_normal n r ]) ≡ Some s → ReducesTo t s) [
  | None ↦ λ p q. let r : t ≡ s = cc in transport (ReducesTo t) r (done t)
  | Some r ↦ λ p q. then_step (leftmost_steps t r (weak_leftmost t r p)) (top_reduces n r s q)
] refl e

pub top_ended : (n : ℕ) (t s : Term) → top_normal n t ≡ Some s → weak_step s ≡ None
top_ended zero t s e = absurd (cc)
top_ended (suc n) t s e = elim (weak_step t) as (λ o. weak_step t ≡ o → (elim o [ None ↦ Some t | Some r ↦ top_normal n r ]) ≡ Some s → weak_step s ≡ None) [
  | None ↦ λ p q. let r : t ≡ s = cc in ap weak_step (sym r) ∙ p
  | Some r ↦ λ p q. top_ended n r s q
] refl e

-- a term that takes no step at the top is an abstraction, or a head on arguments
pub data View : Term → Type 0 where
  as_abs : {t : Term} → (b : Term) → t ≡ abs b → View t
  as_head : {t : Term} → (h : Term) → (ts : List Term) → IsHead h → t ≡ apply h ts → View t

pub view : (t : Term) (ts : List Term) → weak_step (apply t ts) ≡ None → View (apply t ts)
view (index i) ts e = as_head (index i) ts tt refl
view (atom a) ts e = as_head (atom a) ts tt refl
view (abs b) [] e = as_abs b refl
view (abs b) (t ∷ ts) e = absurd (let q : Some (apply (substitute t b) ts) ≡ None = sym (weak_apply ts (abs b) t (substitute t b) refl) ∙ e in cc)
view (app f u) ts e = view f (u ∷ ts) e

pub looked_head : (h : Term) (ts : List Term) → looked (apply h ts) [] ≡ looked h ts
looked_head h ts = looked_apply ts [] h ∙ ap (looked h) (append-nil ts)

-- clean parts
pub data EachClean (s : Side) (d : ℕ) : List Term → Type 0 where
  clean_none : EachClean s d []
  clean_more : {t : Term} {ts : List Term} → IsClean s d t → EachClean s d ts → EachClean s d (t ∷ ts)

pub clean_like : (s : Side) (d : ℕ) (t u : Term) → Converts u t → IsClean s d t → IsClean s d u
clean_like s d t u c h = record { to = h.to; converts = converts_on c h.converts; within = h.within }

clean_app : (s : Side) (d : ℕ) (t u : Term) → IsClean s d t → IsClean s d u → IsClean s d (app t u)
clean_app s d t u h k = record { to = app h.to k.to; converts = converts_app h.converts k.converts; within = (h.within, k.within) }

pub clean_apply : (s : Side) (d : ℕ) (ts : List Term) (h : Term) → IsClean s d h → EachClean s d ts → IsClean s d (apply h ts)
clean_apply s d [] h c e = c
clean_apply s d (t ∷ ts) h c (clean_more k e) = clean_apply s d ts (app h t) (clean_app s d h t c k) e

reaches_clean : (s : Side) (ts : List Term) → EachReaches (MayStand s) ts → EachClean s 0 ts
reaches_clean s [] e = clean_none
reaches_clean s (t ∷ ts) (reaches_more u r w e) = clean_more (record { to = u; converts = converts_reduces r; within = w }) (reaches_clean s ts e)

pub allows_local : (s : Side) (k : ℕ) → s.pair < k → allows s k ≡ true
allows_local s k h = let p : nat_lt s.pair k ≡ true = grind (arith, nat_tests) in ap (λ b. nat_le k s.level || member k s.arguments || b) p ∙ third (nat_le k s.level) (member k s.arguments)
  where
    third : (a b : Bool) → (a || b || true) ≡ true
    third true b = refl
    third false true = refl
    third false false = refl

-- an abstraction on a local eigenconstant
clean_opened : (s : Side) (k : ℕ) (b : Term) → s.pair ≤ k → IsClean s 0 (abs b) → IsClean s 0 (substitute (atom (eigen (suc k))) b)
clean_opened s k b l h = record {
  to = app h.to (atom (eigen (suc k)));
  converts = converts_on (converts_sym (converts_step (here (by_beta b (atom (eigen (suc k))))))) (converts_app h.converts (same (atom (eigen (suc k)))));
  within = (h.within, allows_local s (suc k) (omega (arith, l)));
}

-- what a scan of a clean term comes to
stands_head : (s : Side) (h : Term) → Within (MayStand s) 0 h → allows_head s h ≡ true
stands_head s (index i) w = refl
stands_head s (atom (constant c us)) w = refl
stands_head s (atom (integer z)) w = refl
stands_head s (atom (text b)) w = refl
stands_head s (atom (eigen k)) w = w
stands_head s (atom (logic x l)) w = refl
stands_head s (atom (param k u)) w = refl
stands_head s (abs b) w = refl
stands_head s (app t u) w = refl

fit_above : (s : Side) (d : Bool) (q : Scanned) → d ≡ false → IsFit s q → IsFit s (above d q)
fit_above s d (broken u) e h = h
fit_above s d (whole u f ps) e h = ((λ i. e i || h.0 i), h.1)

all_both : (s : Side) (ps qs : List Pattern) → all_fit s ps ≡ true → all_fit s qs ≡ true → all_fit s (ps ++ qs) ≡ true
all_both s [] qs h k = k
all_both s (p ∷ ps) qs h k = go (fits s p) h (λ x. all_both s ps qs x k)
  where
    go : (b : Bool) → (b && all_fit s ps) ≡ true → (all_fit s ps ≡ true → all_fit s (ps ++ qs) ≡ true) → (b && all_fit s (ps ++ qs)) ≡ true
    go true x f = f x
    go false x f = absurd (cc)

fit_beside : (s : Side) (u : ℕ) (d : Bool) (ps : List Pattern) (q : Scanned) → IsFit s (whole u d ps) → IsFit s q → IsFit s (beside u d ps q)
fit_beside s u d ps (broken m) h k = k
fit_beside s u d ps (whole m e qs) h k = ((λ i. h.0 i || k.0 i), all_both s ps qs h.1 k.1)

if_allowed : (s : Side) (limit n k : ℕ) (inside a : Bool) (ts : List Term) (r : Scanned) → a ≡ true →
    (elim (a || inside) as (λ z. Option Scanned) [ true ↦ option_map (above (not a)) (scan_tops limit n s inside k ts) | false ↦ Some (broken 1) ]) ≡ Some r →
    option_map (above false) (scan_tops limit n s inside k ts) ≡ Some r
if_allowed s limit n k inside true ts r e q = q
if_allowed s limit n k inside false ts r e q = absurd (cc)

chosen_only : (p : List ℕ → Bool) (o : Option (List ℕ)) (b : List ℕ) → only_if p o ≡ Some b → o ≡ Some b
chosen_only p None b e = absurd (cc)
chosen_only p (Some a) b e = go (p a) e
  where
    go : (c : Bool) → (if c then Some a else None) ≡ Some b → Some a ≡ Some b
    go true q = q
    go false q = absurd (cc)

pub eigens_of_pattern : (limit l : ℕ) (ts : List Term) (b : List ℕ) → pattern_of limit l ts ≡ Some (Some b) → as_eigens limit ts ≡ Some (Some b)
eigens_of_pattern limit l ts b e =
    let w = from_map (only_if (λ ks. are_distinct ks && are_above l ks)) (as_eigens limit ts) (Some b) e in
    w.1 ∙ ap (λ x. Some x) (chosen_only (λ ks. are_distinct ks && are_above l ks) w.0 b (sym w.2))

allowed_eigens : (s : Side) (ts : List Term) (b : List ℕ) → ConvertAll ts (eigens b) → EachClean s 0 ts → allow s b ≡ true
allowed_eigens s [] [] c e = refl
allowed_eigens s [] (k ∷ b) c e = absurd (elim c [ ])
allowed_eigens s (t ∷ ts) [] c e = absurd (elim c [ ])
allowed_eigens s (t ∷ ts) (k ∷ b) (convert_more c cs) (clean_more h e) =
    and_from (allows s k) (allow s b) (head_reaches (MayStand s) (atom (eigen k)) [] h.to tt (converts_on (converts_sym c) h.converts) h.within).0 (allowed_eigens s ts b cs e)

fit_pattern : (s : Side) (inside : Bool) (y m : ℕ) (b : List ℕ) → is_side s y m ≡ false → nat_lt s.level m ≡ false → allow s b ≡ true → IsFit s (scanned_pattern s inside y m b)
fit_pattern s inside y m b e f a = go inside
  where
    low : nat_le m s.level ≡ true
    low = grind (arith, nat_tests)

    fitting : all_fit s (pattern y m b ∷ []) ≡ true
    fitting = and_from (nat_le m s.level && allow s b) true (and_from (nat_le m s.level) (allow s b) low a) refl

    go : (i : Bool) → IsFit s (scanned_pattern s i y m b)
    go true = ((λ i. e i || f i || not (a i)), fitting)
    go false = transport (λ x. IsFit s (if x then broken 1 else whole 1 false (pattern y m b ∷ []))) (sym e) (refl, fitting)

module _ (limit : ℕ) (s : Side) where
  clean_look : (t w : Term) → top_normal limit t ≡ Some w → IsClean s 0 t → IsClean s 0 w
  clean_look t w e h = clean_like s 0 t w (converts_sym (converts_reduces (top_reduces limit t w e))) h

  abbrev Fits : ℕ → Type 0
  Fits n = (inside : Bool) (k : ℕ) (t : Term) → s.pair ≤ k → IsClean s 0 t → (r : Scanned) → scan_top limit n s inside k t ≡ Some r → IsFit s r

  abbrev FitAll : ℕ → Type 0
  FitAll n = (inside : Bool) (k : ℕ) (ts : List Term) → s.pair ≤ k → EachClean s 0 ts → (r : Scanned) → scan_tops limit n s inside k ts ≡ Some r → IsFit s r

  rigid_fit : (n : ℕ) (inside : Bool) (k : ℕ) (h : Term) (ts : List Term) (r : Scanned) → FitAll n → s.pair ≤ k → Within (MayStand s) 0 h → EachClean s 0 ts →
      scan_seen limit n s inside k (rigid h ts) ≡ Some r → IsFit s r
  rigid_fit n inside k h ts r g l w e q =
      let y = from_map (above false) (scan_tops limit n s inside k ts) r (if_allowed s limit n k inside (allows_head s h) ts r (stands_head s h w) q) in
      transport (IsFit s) (sym y.2) (fit_above s false y.0 refl (g inside k ts l e y.0 y.1))

  flexible_fit : (n : ℕ) (inside : Bool) (k y m : ℕ) (ts : List Term) (r : Scanned) → FitAll n → s.pair ≤ k → is_side s y m ≡ false → nat_lt s.level m ≡ false → EachClean s 0 ts →
      scan_seen limit n s inside k (flexible y m ts) ≡ Some r → IsFit s r
  flexible_fit n inside k y m ts r g l d f e q = let w = from_bind _ (pattern_of limit m ts) r q in go w.0 w.1 w.2
    where
      go : (o : Option (List ℕ)) → pattern_of limit m ts ≡ Some o → (elim o as (λ z. Option Scanned) [
        | Some b ↦ Some (scanned_pattern s inside y m b)
        | None ↦ option_map (above (is_side s y m || nat_lt s.level m)) (scan_tops limit n s true k ts)
      ]) ≡ Some r → IsFit s r
      go (Some b) p x =
          let z : scanned_pattern s inside y m b ≡ r = cc in
          transport (IsFit s) z (fit_pattern s inside y m b d f (allowed_eigens s ts b (as_eigens_is limit ts b (eigens_of_pattern limit m ts b p)) e))
      go None p x =
          let z = from_map (above (is_side s y m || nat_lt s.level m)) (scan_tops limit n s true k ts) r x in
          transport (IsFit s) (sym z.2) (fit_above s (is_side s y m || nat_lt s.level m) z.0 (λ i. d i || f i) (g true k ts l e z.0 z.1))

  head_fit : (n : ℕ) (inside : Bool) (k : ℕ) (h : Term) (ts : List Term) (r : Scanned) → IsHead h → FitAll n → s.pair ≤ k → Within (MayStand s) 0 h → EachClean s 0 ts →
      scan_seen limit n s inside k (looked h ts) ≡ Some r → IsFit s r
  head_fit n inside k (index i) ts r i' g l w e q = rigid_fit n inside k (index i) ts r g l w e q
  head_fit n inside k (atom (constant c us)) ts r i' g l w e q = rigid_fit n inside k (atom (constant c us)) ts r g l w e q
  head_fit n inside k (atom (integer z)) ts r i' g l w e q = rigid_fit n inside k (atom (integer z)) ts r g l w e q
  head_fit n inside k (atom (text b)) ts r i' g l w e q = rigid_fit n inside k (atom (text b)) ts r g l w e q
  head_fit n inside k (atom (eigen j)) ts r i' g l w e q = rigid_fit n inside k (atom (eigen j)) ts r g l w e q
  head_fit n inside k (atom (logic x m)) ts r i' g l w e q = flexible_fit n inside k x m ts r g l w.0 w.1 e q
  head_fit n inside k (atom (param j u)) ts r i' g l w e q = rigid_fit n inside k (atom (param j u)) ts r g l w e q
  head_fit n inside k (abs b) ts r i' g l w e q = absurd i'
  head_fit n inside k (app t u) ts r i' g l w e q = absurd i'

  view_fit : (n : ℕ) (inside : Bool) (k : ℕ) (w : Term) (r : Scanned) → View w → Fits n → FitAll n → s.pair ≤ k → IsClean s 0 w → scan_seen limit n s inside k (looked w []) ≡ Some r → IsFit s r
  view_fit n inside k w r (as_abs b e) f g l h q =
      f inside (suc k) (substitute (atom (eigen (suc k))) b) (omega (arith, l)) (clean_opened s k b l (transport (IsClean s 0) e h)) r (ap (λ x. scan_seen limit n s inside k (looked x [])) (sym e) ∙ q)
  view_fit n inside k w r (as_head t ts i e) f g l h q =
      let c = transport (IsClean s 0) e h in
      let z = head_reaches (MayStand s) t ts c.to i c.converts c.within in
      head_fit n inside k t ts r i g l z.0 (reaches_clean s ts z.1) (ap (scan_seen limit n s inside k) (sym (ap (λ x. looked x []) e ∙ looked_head t ts)) ∙ q)

  both_fit : (n : ℕ) (inside : Bool) (k : ℕ) (ts : List Term) (r : Scanned) → ((r : Scanned) → scan_tops limit n s inside k ts ≡ Some r → IsFit s r) → (x : Scanned) → IsFit s x →
      (elim x as (λ z. Option Scanned) [ broken u ↦ Some (broken u) | whole u d ps ↦ option_map (beside u d ps) (scan_tops limit n s inside k ts) ]) ≡ Some r → IsFit s r
  both_fit n inside k ts r g (broken u) h q = absurd h
  both_fit n inside k ts r g (whole u d ps) h q = let z = from_map (beside u d ps) (scan_tops limit n s inside k ts) r q in transport (IsFit s) (sym z.2) (fit_beside s u d ps z.0 h (g z.0 z.1))

  mutual
    pub clean_fits : (n : ℕ) → Fits n
    clean_fits zero inside k t l h r q = absurd (cc)
    clean_fits (suc n) inside k t l h r q =
        let v = from_bind (scan_seen limit n s inside k) (top_look limit t) r (sym (top_is limit n s inside k t) ∙ q) in
        let w = from_map (λ x. looked x []) (top_normal limit t) v.0 v.1 in
        view_fit n inside k w.0 r (view w.0 [] (top_ended limit t w.0 w.1)) (clean_fits n) (clean_all_fit n) l (clean_look t w.0 w.1 h) (ap (scan_seen limit n s inside k) (sym w.2) ∙ v.2)

    pub clean_all_fit : (n : ℕ) → FitAll n
    clean_all_fit zero inside k ts l e r q = absurd (cc)
    clean_all_fit (suc n) inside k [] l e r q = let i : whole 0 false [] ≡ r = cc in transport (IsFit s) i (refl, refl)
    clean_all_fit (suc n) inside k (t ∷ ts) l (clean_more h e) r q =
        let v = from_bind _ (scan_top limit n s inside k t) r q in both_fit n inside k ts r (clean_all_fit n inside k ts l e) v.0 (clean_fits n inside k t l h v.0 v.1) v.2
