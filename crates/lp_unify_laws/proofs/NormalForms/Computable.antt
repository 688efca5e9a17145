-- Leftmost reduction of a typed term ends, by computable terms (Tait 1967): at an arrow those that are computable on each computable
-- argument, at any other type those that end. Atoms serve as new variables, so no computable term has to be renamed.
use Rattle.std.proofs.Common.{◌≡◌, ℕ, zero, suc, List, ◌∷◌, ◌∙◌, refl, sym, ap, subst as transport, Option, Some}
use Rattle.std.specs.Prelude.{slice_get}
use mathlib.Core.Path.{fun_ext}
use Rattle.lp_calculus.specs.Types.{Ty, var, param, con, arrow}
use Rattle.lp_calculus.specs.Term.{Term, Atom, index, atom, abs, app, eigen, substitute}
use Rattle.lp_calculus.specs.Convert.{leftmost_step, option_term, or_else}
use Rattle.lp_calculus.specs.Typing.{HasType}
use Rattle.lp_calculus.proofs.Sigma.{up, subst, instead, subst-subst, subst-rename, subst-index}
use Rattle.lp_calculus.proofs.Plain.{substitute-subst}
use Rattle.lp_unify_laws.proofs.NormalForms.Ends.{Ends, rests, goes}
use Rattle.lp_unify_laws.proofs.NormalForms.Applied.{IsNeutral, applied_ends}
use Rattle.lp_unify_laws.proofs.NormalForms.Opened.{opened_ends}

abbrev Computable : Ty → Term → Type 0
Computable (arrow A B) t = (u : Term) → Computable A u → Computable B (app t u)
Computable (var i) t = Ends leftmost_step t
Computable (param k) t = Ends leftmost_step t
Computable (con c ts) t = Ends leftmost_step t

-- the contraction of the head, which is the leftmost one and stays so on further arguments
data Weak : Term → Term → Type 0 where
  contracts : (b u : Term) → Weak (app (abs b) u) (substitute u b)
  in_front : {t s : Term} → (u : Term) → Weak t s → Weak (app t u) (app s u)

weak_step : {t s : Term} → Weak t s → leftmost_step t ≡ Some s
weak_step (contracts b u) = refl
weak_step (in_front u (contracts b v)) = refl
weak_step (in_front u (in_front {t = t} v w)) = ap (λ o. or_else (option_term (λ s. app s u) o) (option_term (app (app t v)) (leftmost_step u))) (weak_step (in_front v w))

expanded : (T : Ty) {t s : Term} → Weak t s → Computable T s → Computable T t
expanded (arrow A B) w c = λ u k. expanded B (in_front u w) (c u k)
expanded (var i) w c = goes (weak_step w) c
expanded (param k) w c = goes (weak_step w) c
expanded (con k ts) w c = goes (weak_step w) c

mutual
  neutral_computable : (T : Ty) {t : Term} → IsNeutral t → Ends leftmost_step t → Computable T t
  neutral_computable (arrow A B) h e = λ u c. neutral_computable B h (applied_ends h e u (computable_ends A u c))
  neutral_computable (var i) h e = e
  neutral_computable (param k) h e = e
  neutral_computable (con c ts) h e = e

  computable_ends : (T : Ty) (t : Term) → Computable T t → Ends leftmost_step t
  computable_ends (arrow A B) t c = opened_ends (eigen 0) (computable_ends B (app t (atom (eigen 0))) (c (atom (eigen 0)) (neutral_computable A tt (rests refl)))) t refl
  computable_ends (var i) t c = c
  computable_ends (param k) t c = c
  computable_ends (con k ts) t c = c

-- terms for indices, with one more
abbrev and_then : Term → (ℕ → Term) → ℕ → Term
and_then u θ zero = u
and_then u θ (suc i) = θ i

instead_up : (u : Term) (θ : ℕ → Term) (i : ℕ) → subst (instead u) (up θ i) ≡ and_then u θ i
instead_up u θ zero = refl
instead_up u θ (suc i) = subst-rename suc (instead u) (θ i) ∙ subst-index (θ i)

opened : (u : Term) (θ : ℕ → Term) (b : Term) → substitute u (subst (up θ) b) ≡ subst (and_then u θ) b
opened u θ b = substitute-subst u (subst (up θ) b) ∙ subst-subst (up θ) (instead u) b ∙ ap (λ z. subst z b) (fun_ext (instead_up u θ))

abbrev AreComputable : List Ty → (ℕ → Term) → Type 0
AreComputable C θ = (i : ℕ) (A : Ty) → slice_get C i ≡ Some A → Computable A (θ i)

one_more : (C : List Ty) (θ : ℕ → Term) (A : Ty) (u : Term) → AreComputable C θ → Computable A u → AreComputable (A ∷ C) (and_then u θ)
one_more C θ A u v c zero B e = let r : A ≡ B = cc in transport (λ z. Computable z u) r c
one_more C θ A u v c (suc i) B e = v i B e

typed_computable : (τ : Atom → Option Ty) (C : List Ty) (t : Term) (T : Ty) → HasType τ C t T → (θ : ℕ → Term) → AreComputable C θ → Computable T (subst θ t)
typed_computable τ C (index i) T h θ v = v i T h
typed_computable τ C (atom a) T h θ v = neutral_computable T tt (rests refl)
typed_computable τ C (abs b) T h θ v = transport (λ z. Computable z (abs (subst (up θ) b))) (sym h.2)
    (λ u c. expanded h.1 (contracts (subst (up θ) b) u) (transport (Computable h.1) (sym (opened u θ b)) (typed_computable τ (h.0 ∷ C) b h.1 h.3 (and_then u θ) (one_more C θ h.0 u v c))))
typed_computable τ C (app f u) T h θ v = typed_computable τ C f (arrow h.0 T) h.1 θ v (subst θ u) (typed_computable τ C u h.0 h.2 θ v)

pub typed_ends : (τ : Atom → Option Ty) (C : List Ty) (t : Term) (T : Ty) → HasType τ C t T → Ends leftmost_step t
typed_ends τ C t T h =
    transport (Ends leftmost_step) (subst-index t) (computable_ends T (subst index t) (typed_computable τ C t T h index (λ i A e. neutral_computable A tt (rests refl))))
