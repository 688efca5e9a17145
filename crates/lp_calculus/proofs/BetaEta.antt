-- Beta and eta together are confluent: the Church-Rosser property of conversion.
use Rattle.std.proofs.Common.{◌≡◌, ℕ, zero, suc, ◌∙◌, refl, sym, ap, subst as transport, arith}
use Rattle.std.proofs.lemmas.Bool.Decides.{nat_tests}
use mathlib.Core.Path.{fun_ext}
use Rattle.lp_calculus.specs.Term.{Term, index, atom, abs, app, shift}
use Rattle.lp_calculus.specs.Convert.{ReducesTo, Anywhere, here, in_abs, in_head, in_argument, Beta, beta, BetaEta, by_beta, by_eta, done, then_step, same, forth, back, Converts, Reduces}
use Rattle.lp_calculus.specs.Normal.{IsNormal}
use Rattle.lp_calculus.proofs.Sigma.{lift, rename, subst, instead}
use Rattle.lp_calculus.proofs.Plain.{shift-rename, bump}
use Rattle.lp_calculus.proofs.Parallel.{Par, par_same, par_abs, par_app, par_beta}
use Rattle.lp_calculus.proofs.Plain.{substitute-subst}
use Rattle.lp_calculus.proofs.Eta.{Eta, eta_here, eta_abs, eta_head, eta_argument, Etas, etas_none, etas_more, etas_on, app_same, commute, instead-raised}
use Rattle.lp_calculus.proofs.Confluent.{Pars, stop, step, pars_confluent, pars_reduces}

-- below k more abstractions
abbrev lifts : ℕ → (ℕ → ℕ) → ℕ → ℕ
lifts zero ρ = ρ
lifts (suc k) ρ = lift (lifts k ρ)

pull-index : (ρ : ℕ → ℕ) (k i j : ℕ) → lifts k (lift ρ) i ≡ lifts k suc j → (m : ℕ) × (i ≡ lifts k suc m) × (j ≡ lifts k ρ m)
pull-index ρ zero zero j e = absurd (omega arith)
pull-index ρ zero (suc i) j e = (i, refl, omega arith)
pull-index ρ (suc k) zero zero e = (zero, refl, refl)
pull-index ρ (suc k) zero (suc j) e = absurd (omega arith)
pull-index ρ (suc k) (suc i) zero e = absurd (omega arith)
pull-index ρ (suc k) (suc i) (suc j) e =
    let q : lifts k (lift ρ) i ≡ lifts k suc j = omega arith in
    let (m, a, b) = pull-index ρ k i j q in
    (suc m, ap suc a, ap suc b)

-- what is renamed in two ways was there before both
pull : (ρ : ℕ → ℕ) (k : ℕ) (t x : Term) → rename (lifts k (lift ρ)) t ≡ rename (lifts k suc) x → (y : Term) × (t ≡ rename (lifts k suc) y) × (x ≡ rename (lifts k ρ) y)
pull ρ k (index i) (index j) e =
    let q : lifts k (lift ρ) i ≡ lifts k suc j = cc in
    let (m, a, b) = pull-index ρ k i j q in
    (index m, ap index a, ap index b)
pull ρ k (atom a) (atom b) e = (atom b, e, refl)
pull ρ k (abs b) (abs c) e =
    let q : rename (lifts (suc k) (lift ρ)) b ≡ rename (lifts (suc k) suc) c = cc in
    let (y, i, j) = pull ρ (suc k) b c q in
    (abs y, ap abs i, ap abs j)
pull ρ k (app t u) (app x z) e =
    let q : rename (lifts k (lift ρ)) t ≡ rename (lifts k suc) x = cc in
    let p : rename (lifts k (lift ρ)) u ≡ rename (lifts k suc) z = cc in
    let (y, i, j) = pull ρ k t x q in
    let (v, l, m) = pull ρ k u z p in
    (app y v, app_same i l, app_same j m)
pull ρ k _ _ e = absurd (cc)

eta_unrename : (ρ : ℕ → ℕ) {u s : Term} → Eta u s → (t : Term) → u ≡ rename ρ t → (w : Term) × (s ≡ rename ρ w) × Eta t w
eta_unrename ρ (eta_here x h) (abs (app t (index zero))) e =
    let f : abs (app (rename (lift ρ) t) (index 0)) ≡ abs (app (rename suc x) (index 0)) = sym e ∙ h in
    let q : rename (lift ρ) t ≡ rename suc x = cc in
    let (y, i, j) = pull ρ 0 t x q in
    (y, j, eta_here y (ap (λ z. abs (app z (index 0))) i))
eta_unrename ρ (eta_here x h) (abs (app t (index (suc j)))) e =
    let f : abs (app (rename (lift ρ) t) (index (suc (ρ j)))) ≡ abs (app (rename suc x) (index 0)) = sym e ∙ h in
    let q : suc (ρ j) ≡ 0 = cc in absurd (omega arith)
eta_unrename ρ (eta_here x h) _ e = absurd (cc)
eta_unrename ρ (eta_abs {b = b} d) (abs t) e =
    let q : b ≡ rename (lift ρ) t = cc in
    let (w, i, j) = eta_unrename (lift ρ) d t q in
    (abs w, ap abs i, eta_abs j)
eta_unrename ρ (eta_abs d) _ e = absurd (cc)
eta_unrename ρ (eta_head {t = f} a d) (app t v) e =
    let q : f ≡ rename ρ t = cc in
    let p : a ≡ rename ρ v = cc in
    let (w, i, j) = eta_unrename ρ d t q in
    (app w v, app_same i p, eta_head v j)
eta_unrename ρ (eta_head a d) _ e = absurd (cc)
eta_unrename ρ (eta_argument f {u = a} d) (app t v) e =
    let q : f ≡ rename ρ t = cc in
    let p : a ≡ rename ρ v = cc in
    let (w, i, j) = eta_unrename ρ d v p in
    (app t w, app_same q i, eta_argument t j)
eta_unrename ρ (eta_argument f d) _ e = absurd (cc)

-- at most one eta step
data Eta? : Term → Term → Type 0 where
  none : (t : Term) → Eta? t t
  one : {t s : Term} → Eta t s → Eta? t s

no_eta_index : {u v : Term} (i : ℕ) → Eta u v → u ≡ index i → ⊥
no_eta_index i (eta_here x h) e = cc
no_eta_index i (eta_abs d) e = cc
no_eta_index i (eta_head u d) e = cc
no_eta_index i (eta_argument t d) e = cc

eta_root : (x : Term) {b c : Term} → Eta b c → b ≡ app (rename suc x) (index 0) → (y : Term) × (c ≡ app (rename suc y) (index 0)) × Eta x y
eta_root x (eta_here z h) e = absurd (cc)
eta_root x (eta_abs d) e = absurd (cc)
eta_root x (eta_head {t = f} a d) e =
    let q : f ≡ rename suc x = cc in
    let p : a ≡ index 0 = cc in
    let (y, i, j) = eta_unrename suc d x q in
    (y, app_same i p, j)
eta_root x (eta_argument f {u = a} d) e = let p : a ≡ index 0 = cc in absurd (no_eta_index 0 d p)

raised_same : (x y : Term) → rename suc x ≡ rename suc y → x ≡ y
raised_same x y e = sym (instead-raised (index 0) x) ∙ ap (subst (instead (index 0))) e ∙ instead-raised (index 0) y

abs? : {b c : Term} → Eta? b c → Eta? (abs b) (abs c)
abs? (none t) = none (abs t)
abs? (one d) = one (eta_abs d)

head? : (u : Term) {b c : Term} → Eta? b c → Eta? (app b u) (app c u)
head? u (none t) = none (app t u)
head? u (one d) = one (eta_head u d)

argument? : (t : Term) {b c : Term} → Eta? b c → Eta? (app t b) (app t c)
argument? t (none u) = none (app t u)
argument? t (one d) = one (eta_argument t d)

eta_diamond : {t s r : Term} → Eta t s → Eta t r → (w : Term) × Eta? s w × Eta? r w
eta_diamond {t} (eta_here x e) (eta_here y f) =
    let g : abs (app (rename suc x) (index 0)) ≡ abs (app (rename suc y) (index 0)) = sym e ∙ f in
    let q : rename suc x ≡ rename suc y = cc in
    (y, transport (λ z. Eta? z y) (sym (raised_same x y q)) (none y), none y)
eta_diamond (eta_here x e) (eta_abs {b = b} d) =
    let q : b ≡ app (rename suc x) (index 0) = cc in
    let (y, i, j) = eta_root x d q in
    (y, one j, one (eta_here y (ap abs i)))
eta_diamond (eta_here x e) (eta_head u d) = absurd (cc)
eta_diamond (eta_here x e) (eta_argument t d) = absurd (cc)
eta_diamond (eta_abs {b = b} d) (eta_here x e) =
    let q : b ≡ app (rename suc x) (index 0) = cc in
    let (y, i, j) = eta_root x d q in
    (y, one (eta_here y (ap abs i)), one j)
eta_diamond (eta_abs d) (eta_abs c) = let (w, i, j) = eta_diamond d c in (abs w, abs? i, abs? j)
eta_diamond (eta_head u d) (eta_here x e) = absurd (cc)
eta_diamond (eta_head u d) (eta_head v c) = let (w, i, j) = eta_diamond d c in (app w u, head? u i, head? u j)
eta_diamond (eta_head {s = s} u d) (eta_argument t {v = v} c) = (app s v, one (eta_argument s c), one (eta_head v d))
eta_diamond (eta_argument t d) (eta_here x e) = absurd (cc)
eta_diamond (eta_argument t {v = v} d) (eta_head {s = s} u c) = (app s v, one (eta_head v c), one (eta_argument s d))
eta_diamond (eta_argument t d) (eta_argument s c) = let (w, i, j) = eta_diamond d c in (app t w, argument? t i, argument? t j)

etas_of? : {t s : Term} → Eta? t s → Etas t s
etas_of? (none t) = etas_none t
etas_of? (one d) = etas_more d (etas_none _)

eta_strip : {t s r : Term} → Eta? t s → Etas t r → (w : Term) × Etas s w × Eta? r w
eta_strip {s = s} d (etas_none t) = (s, etas_none s, d)
eta_strip {r = r} (none t) (etas_more c cs) = (r, etas_more c cs, none r)
eta_strip (one d) (etas_more c cs) =
    let k = eta_diamond d c in
    let (w, i, j) = eta_strip k.2 cs in
    (w, etas_on (etas_of? k.1) i, j)

etas_confluent : {t s r : Term} → Etas t s → Etas t r → (w : Term) × Etas s w × Etas r w
etas_confluent {r = r} (etas_none t) cs = (r, cs, etas_none r)
etas_confluent (etas_more d ds) cs =
    let k = eta_strip (one d) cs in
    let (w, i, j) = etas_confluent ds k.1 in
    (w, i, etas_on (etas_of? k.2) j)

-- lists of eta steps and of parallel steps commute
commute_par : {t s r : Term} → Etas t s → Par t r → (w : Term) × Etas r w × Par s w
commute_par {r = r} (etas_none t) p = (r, etas_none r, p)
commute_par (etas_more d ds) p =
    let k = commute d p in
    let (w, i, j) = commute_par ds k.2 in
    (w, etas_on k.1 i, j)

commute_pars : {t s r : Term} → Etas t s → Pars t r → (w : Term) × Etas r w × Pars s w
commute_pars {s = s} ds (stop t) = (s, ds, stop s)
commute_pars ds (step p ps) =
    let k = commute_par ds p in
    let (w, i, j) = commute_pars k.1 ps in
    (w, i, step k.2 j)

-- parallel steps, and then eta steps
abbrev Both : Term → Term → Type 0
Both t s = (u : Term) × Pars t u × Etas u s

both_diamond : {t s r : Term} → Both t s → Both t r → (w : Term) × Both s w × Both r w
both_diamond p q =
    let a = pars_confluent p.1 q.1 in
    let b = commute_pars p.2 a.1 in
    let c = commute_pars q.2 a.2 in
    let d = etas_confluent b.1 c.1 in
    (d.0, (b.0, b.2, d.1), (c.0, c.2, d.2))

data Boths : Term → Term → Type 0 where
  end : (t : Term) → Boths t t
  more : {t s r : Term} → Both t s → Boths s r → Boths t r

both_strip : {t s r : Term} → Both t s → Boths t r → (w : Term) × Boths s w × Both r w
both_strip {s = s} p (end t) = (s, end s, p)
both_strip p (more q qs) =
    let k = both_diamond p q in
    let (w, i, j) = both_strip k.2 qs in
    (w, more k.1 i, j)

boths_on : {t s r : Term} → Boths t s → Boths s r → Boths t r
boths_on (end t) q = q
boths_on (more p ps) q = more p (boths_on ps q)

boths_confluent : {t s r : Term} → Boths t s → Boths t r → (w : Term) × Boths s w × Boths r w
boths_confluent {r = r} (end t) qs = (r, qs, end r)
boths_confluent (more p ps) qs =
    let k = both_strip p qs in
    let (w, i, j) = boths_confluent ps k.1 in
    (w, i, more k.2 j)

-- the plain definition
bump-one : (i : ℕ) → bump 1 0 i ≡ suc i
bump-one i = grind (arith, nat_tests)

pub shift_one : (t : Term) → shift 0 1 t ≡ rename suc t
shift_one t = shift-rename 0 1 t ∙ ap (λ ρ. rename ρ t) (fun_ext bump-one)

data OneOf (t s : Term) : Type 0 where
  a_beta : Par t s → OneOf t s
  an_eta : Eta t s → OneOf t s

one_of : {t s : Term} → Anywhere BetaEta t s → OneOf t s
one_of (here (by_beta b u)) = a_beta (par_beta (par_same b) (par_same u) (substitute-subst u b))
one_of (here (by_eta t)) = an_eta (eta_here t (ap (λ x. abs (app x (index 0))) (shift_one t)))
one_of (in_abs p) = elim (one_of p) [ a_beta q ↦ a_beta (par_abs q) | an_eta q ↦ an_eta (eta_abs q) ]
one_of (in_head u p) = elim (one_of p) [ a_beta q ↦ a_beta (par_app q (par_same u)) | an_eta q ↦ an_eta (eta_head u q) ]
one_of (in_argument t p) = elim (one_of p) [ a_beta q ↦ a_beta (par_app (par_same t) q) | an_eta q ↦ an_eta (eta_argument t q) ]

both_of : {t s : Term} → Anywhere BetaEta t s → Both t s
both_of {t} {s} p = elim (one_of p) [ a_beta q ↦ (s, step q (stop s), etas_none s) | an_eta q ↦ (t, stop t, etas_more q (etas_none s)) ]

pub many_on : {t s r : Term} → ReducesTo t s → ReducesTo s r → ReducesTo t r
many_on (done t) q = q
many_on (then_step p ps) q = then_step p (many_on ps q)

beta_is : {t s : Term} → Anywhere Beta t s → Anywhere BetaEta t s
beta_is (here (beta b u)) = here (by_beta b u)
beta_is (in_abs p) = in_abs (beta_is p)
beta_is (in_head u p) = in_head u (beta_is p)
beta_is (in_argument t p) = in_argument t (beta_is p)

betas_are : {t s : Term} → Reduces t s → ReducesTo t s
betas_are (done t) = done t
betas_are (then_step p ps) = then_step (beta_is p) (betas_are ps)

eta_is : {t s : Term} → Eta t s → Anywhere BetaEta t s
eta_is (eta_here x e) = rw (e ∙ ap (λ y. abs (app y (index 0))) (sym (shift_one x))) (here (by_eta x))
eta_is (eta_abs d) = in_abs (eta_is d)
eta_is (eta_head u d) = in_head u (eta_is d)
eta_is (eta_argument t d) = in_argument t (eta_is d)

etas_are : {t s : Term} → Etas t s → ReducesTo t s
etas_are (etas_none t) = done t
etas_are (etas_more d ds) = then_step (eta_is d) (etas_are ds)

boths_are : {t s : Term} → Boths t s → ReducesTo t s
boths_are (end t) = done t
boths_are (more p ps) = many_on (many_on (betas_are (pars_reduces p.1)) (etas_are p.2)) (boths_are ps)

meet : {t s : Term} → Converts t s → (w : Term) × Boths t w × Boths s w
meet (same t) = (t, end t, end t)
meet (forth p c) = let d = meet c in (d.0, more (both_of p) d.1, d.2)
meet (back p c) =
    let d = meet c in
    let e = boths_confluent (more (both_of p) (end _)) d.1 in
    (e.0, e.1, boths_on d.2 e.2)

-- terms that convert reduce to one term
pub conversion_meets : {t s : Term} → Converts t s → (w : Term) × ReducesTo t w × ReducesTo s w
conversion_meets c = let d = meet c in (d.0, boths_are d.1, boths_are d.2)

-- so normal terms that convert are one term
stays : {t s : Term} → IsNormal t → ReducesTo t s → t ≡ s
stays n (done t) = refl
stays n (then_step p ps) = absurd (n _ p)

pub normal_same : (t s : Term) → IsNormal t → IsNormal s → Converts t s → t ≡ s
normal_same t s n m c = let d = conversion_meets c in stays n d.1 ∙ sym (stays m d.2)
