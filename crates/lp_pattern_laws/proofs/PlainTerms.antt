-- Beta-normal terms reduce by eta alone, which keeps all their atoms; and bodies of quantifiers reduce with what these stand on.
use Rattle.std.proofs.Common.{◌≡◌, ℕ, zero, suc, Option, Some, None, refl, sym, ap, ◌∙◌, subst as transport, arith}
use mathlib.Core.Path.{fun_ext}
use Rattle.lp_calculus.specs.Term.{Term, Atom, index, atom, abs, app, shift, substitute}
use Rattle.lp_calculus.specs.Closed.{AllAtoms}
use Rattle.lp_calculus.specs.Convert.{here, in_abs, in_head, in_argument, by_beta, by_eta, ReducesTo, done, then_step, leftmost_step, option_term, or_else}
use Rattle.lp_calculus.specs.Fill.{Within}
use Rattle.lp_calculus.proofs.BetaEta.{many_on, shift_one}
use Rattle.lp_calculus.proofs.Fills.{within_shift}
use Rattle.lp_calculus.proofs.Plain.{substitute-subst}
use Rattle.lp_calculus.proofs.Sigma.{lift, rename, subst, instead, subst-index, subst-rename}
use Rattle.lp_calculus.proofs.Steps.{Step}
use Rattle.lp_standard.specs.Connectives.{body_of}
use Rattle.lp_term.specs.Facts.{IsNoAbstraction}
use Rattle.lp_search_laws.proofs.Closed.{body_opens}
use Rattle.lp_pattern_laws.proofs.Comes.{reduces_both, reduces_raise}
use Rattle.lp_pattern_laws.proofs.FormulaRenamed.{atoms_renamed, body_renamed}

abbrev pub IsPlain : Term → Type 0
IsPlain (index i) = Unit {0}
IsPlain (atom a) = Unit {0}
IsPlain (abs b) = IsPlain b
IsPlain (app t u) = IsNoAbstraction t × IsPlain t × IsPlain u

none_of : (f : Term → Term) (o : Option Term) → option_term f o ≡ None → o ≡ None
none_of f None e = refl
none_of f (Some x) e = absurd (cc)

none_left : (a b : Option Term) → or_else a b ≡ None → a ≡ None
none_left None b e = refl
none_left (Some x) b e = absurd (cc)

none_right : (a b : Option Term) → or_else a b ≡ None → b ≡ None
none_right None b e = e
none_right (Some x) b e = absurd (cc)

pub plain : (t : Term) → leftmost_step t ≡ None → IsPlain t
plain (index i) e = tt
plain (atom a) e = tt
plain (abs b) e = plain b (none_of abs (leftmost_step b) e)
plain (app (abs b) u) e = absurd (cc)
plain (app (index i) u) e = (tt, tt, plain u (none_of (app (index i)) (leftmost_step u) e))
plain (app (atom a) u) e = (tt, tt, plain u (none_of (app (atom a)) (leftmost_step u) e))
plain (app (app t v) u) e =
    let x = none_left (option_term (λ s. app s u) (leftmost_step (app t v))) (option_term (app (app t v)) (leftmost_step u)) e in
    let y = none_right (option_term (λ s. app s u) (leftmost_step (app t v))) (option_term (app (app t v)) (leftmost_step u)) e in
    (tt, plain (app t v) (none_of (λ s. app s u) (leftmost_step (app t v)) x), plain u (none_of (app (app t v)) (leftmost_step u) y))

-- renamed
none_renamed : (ρ : ℕ → ℕ) (t : Term) → IsNoAbstraction t → IsNoAbstraction (rename ρ t)
none_renamed ρ (index i) h = tt
none_renamed ρ (atom a) h = tt
none_renamed ρ (abs b) h = h
none_renamed ρ (app t u) h = tt

none_unrenamed : (ρ : ℕ → ℕ) (t : Term) → IsNoAbstraction (rename ρ t) → IsNoAbstraction t
none_unrenamed ρ (index i) h = tt
none_unrenamed ρ (atom a) h = tt
none_unrenamed ρ (abs b) h = h
none_unrenamed ρ (app t u) h = tt

plain_renamed : (ρ : ℕ → ℕ) (t : Term) → IsPlain t → IsPlain (rename ρ t)
plain_renamed ρ (index i) h = tt
plain_renamed ρ (atom a) h = tt
plain_renamed ρ (abs b) h = plain_renamed (lift ρ) b h
plain_renamed ρ (app t u) h = (none_renamed ρ t h.0, plain_renamed ρ t h.1, plain_renamed ρ u h.2)

plain_unrenamed : (ρ : ℕ → ℕ) (t : Term) → IsPlain (rename ρ t) → IsPlain t
plain_unrenamed ρ (index i) h = tt
plain_unrenamed ρ (atom a) h = tt
plain_unrenamed ρ (abs b) h = plain_unrenamed (lift ρ) b h
plain_unrenamed ρ (app t u) h = (none_unrenamed ρ t h.0, plain_unrenamed ρ t h.1, plain_unrenamed ρ u h.2)

pub plain_raised : (t : Term) → IsPlain t → IsPlain (shift 0 1 t)
plain_raised t h = transport IsPlain (sym (shift_one t)) (plain_renamed suc t h)

-- a step
plain_step : {t s : Term} → Step t s → IsPlain t → IsPlain s × (IsNoAbstraction t → IsNoAbstraction s)
plain_step (here (by_beta b u)) h = absurd h.0
plain_step (here (by_eta t)) h = (plain_unrenamed suc t (transport IsPlain (shift_one t) h.1), (λ k. absurd k))
plain_step (in_abs p) h = ((plain_step p h).0, (λ k. absurd k))
plain_step (in_head u p) h = let q = plain_step p h.1 in ((q.1 h.0, q.0, h.2), (λ k. tt))
plain_step (in_argument t p) h = ((h.0, h.1, (plain_step p h.2).0), (λ k. tt))

atoms_step : (P : Atom → Type 0) {t s : Term} → Step t s → IsPlain t → AllAtoms P s → AllAtoms P t
atoms_step P (here (by_beta b u)) h w = absurd h.0
atoms_step P (here (by_eta t)) h w = (transport (AllAtoms P) (sym (shift_one t)) (atoms_renamed P suc t w), tt)
atoms_step P (in_abs p) h w = atoms_step P p h w
atoms_step P (in_head u p) h w = (atoms_step P p h.1 w.0, w.1)
atoms_step P (in_argument t p) h w = (w.0, atoms_step P p h.2 w.1)

pub atoms_back : (P : Atom → Type 0) {t s : Term} → ReducesTo t s → IsPlain t → AllAtoms P s → AllAtoms P t
atoms_back P (done t) h w = w
atoms_back P (then_step p ps) h w = atoms_step P p h (atoms_back P ps (plain_step p h).0 w)

-- bodies
pub plain_body : (t : Term) → IsPlain t → IsPlain (body_of t)
plain_body (index i) h = (none_shift (index i) tt, plain_raised (index i) tt, tt)
  where
    none_shift : (t : Term) → IsNoAbstraction t → IsNoAbstraction (shift 0 1 t)
    none_shift t k = transport IsNoAbstraction (sym (shift_one t)) (none_renamed suc t k)
plain_body (atom a) h = (tt, tt, tt)
plain_body (abs b) h = h
plain_body (app t u) h = (tt, plain_raised (app t u) h, tt)

pub within_body : (P : Atom → Type 0) (n : ℕ) (t : Term) → Within P n t → Within P (suc n) (body_of t)
within_body P n (index i) w = (within_shift P n (index i) w, omega arith)
within_body P n (atom a) w = (w, omega arith)
within_body P n (abs b) w = w
within_body P n (app t u) w = (within_shift P n (app t u) w, omega arith)

-- a raised term on the new index reduces to the body
kept : (i : ℕ) → instead (index 0) (lift suc i) ≡ index i
kept zero = refl
kept (suc i) = refl

body_back : (t : Term) → substitute (index 0) (body_of (shift 0 1 t)) ≡ body_of t
body_back t =
    ap (λ z. substitute (index 0) (body_of z)) (shift_one t) ∙ ap (substitute (index 0)) (body_renamed suc t) ∙ substitute-subst (index 0) (rename (lift suc) (body_of t)) ∙
    subst-rename (lift suc) (instead (index 0)) (body_of t) ∙ ap (λ σ. subst σ (body_of t)) (fun_ext kept) ∙ subst-index (body_of t)

raised_reduces : (t : Term) → ReducesTo (app (shift 0 1 t) (index 0)) (body_of t)
raised_reduces t = transport (ReducesTo (app (shift 0 1 t) (index 0))) (body_back t) (body_opens (shift 0 1 t) (index 0))

raised_step : {t s : Term} → Step t s → ReducesTo (app (shift 0 1 t) (index 0)) (body_of s)
raised_step {t} {s} p = many_on (reduces_both (reduces_raise (then_step p (done s))) (done (index 0))) (raised_reduces s)

body_step : {t s : Term} → Step t s → ReducesTo (body_of t) (body_of s)
body_step (here (by_beta b u)) = raised_step (here (by_beta b u))
body_step (here (by_eta t)) = raised_reduces t
body_step (in_abs p) = then_step p (done _)
body_step (in_head u p) = raised_step (in_head u p)
body_step (in_argument t p) = raised_step (in_argument t p)

pub body_reduces : {t s : Term} → ReducesTo t s → ReducesTo (body_of t) (body_of s)
body_reduces (done t) = done (body_of t)
body_reduces (then_step p ps) = many_on (body_step p) (body_reduces ps)
