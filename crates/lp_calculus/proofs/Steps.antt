-- Conversion goes through everything, and reduction makes no atom and no loose index.
use Rattle.std.proofs.Common.{◌≡◌, ℕ, zero, suc, ◌<◌, List, [], ◌∷◌, ◌∙◌, sym, ap, subst as transport, arith}
use Rattle.lp_calculus.specs.Term.{Term, index, atom, abs, app, apply, Atom, shift, substitute}
use Rattle.lp_calculus.specs.Convert.{Anywhere, here, in_abs, in_head, in_argument, BetaEta, by_beta, by_eta, same, forth, back, Converts, done, then_step, ReducesTo}
use Rattle.lp_calculus.proofs.Sigma.{lift, rename, instead, rename-instead}
use Rattle.lp_calculus.proofs.Plain.{substitute-subst}
use Rattle.lp_calculus.proofs.BetaEta.{shift_one}
use Rattle.lp_calculus.specs.Fill.{raise, fill, Within}
use Rattle.lp_calculus.proofs.Fills.{lift_suc, fill-raise, fill-substitute, within_unrename, within_subst}

abbrev pub Step : Term → Term → Type 0
Step = Anywhere BetaEta

step_beta : {b u s : Term} → s ≡ substitute u b → Step (app (abs b) u) s
step_beta {b} {u} e = transport (Step (app (abs b) u)) (sym e) (here (by_beta b u))

step_eta : {t b : Term} → b ≡ app (shift 0 1 t) (index 0) → Step (abs b) t
step_eta {t} e = transport (λ x. Step (abs x) t) (sym e) (here (by_eta t))

pub step_fill : (f : Atom → Term) {t s : Term} → Step t s → Step (fill f t) (fill f s)
step_fill f (here (by_beta b u)) = step_beta (fill-substitute f u b)
step_fill f (here (by_eta t)) = step_eta (ap (λ x. app x (index 0)) (ap (fill (raise f)) (shift_one t) ∙ fill-raise f t ∙ sym (shift_one (fill f t))))
step_fill f (in_abs p) = in_abs (step_fill (raise f) p)
step_fill f (in_head u p) = in_head (fill f u) (step_fill f p)
step_fill f (in_argument t p) = in_argument (fill f t) (step_fill f p)

pub step_rename : (ρ : ℕ → ℕ) {t s : Term} → Step t s → Step (rename ρ t) (rename ρ s)
step_rename ρ (here (by_beta b u)) = step_beta (ap (rename ρ) (substitute-subst u b) ∙ rename-instead ρ u b ∙ sym (substitute-subst (rename ρ u) (rename (lift ρ) b)))
step_rename ρ (here (by_eta t)) = step_eta (ap (λ x. app x (index 0)) (ap (rename (lift ρ)) (shift_one t) ∙ lift_suc ρ t ∙ sym (shift_one (rename ρ t))))
step_rename ρ (in_abs p) = in_abs (step_rename (lift ρ) p)
step_rename ρ (in_head u p) = in_head (rename ρ u) (step_rename ρ p)
step_rename ρ (in_argument t p) = in_argument (rename ρ t) (step_rename ρ p)

pub converts_map : (f : Term → Term) → ((t s : Term) → Step t s → Step (f t) (f s)) → {t s : Term} → Converts t s → Converts (f t) (f s)
converts_map f h (same t) = same (f t)
converts_map f h (forth p c) = forth (h _ _ p) (converts_map f h c)
converts_map f h (back p c) = back (h _ _ p) (converts_map f h c)

pub converts_on : {t s r : Term} → Converts t s → Converts s r → Converts t r
converts_on (same t) d = d
converts_on (forth p c) d = forth p (converts_on c d)
converts_on (back p c) d = back p (converts_on c d)

onto : {t s r : Term} → Converts t s → Converts t r → Converts s r
onto (same t) d = d
onto (forth p c) d = onto c (back p d)
onto (back p c) d = onto c (forth p d)

pub converts_sym : {t s : Term} → Converts t s → Converts s t
converts_sym {t} c = onto c (same t)

pub converts_is : {t s : Term} → t ≡ s → Converts t s
converts_is {t} e = transport (Converts t) e (same t)

pub converts_step : {t s : Term} → Step t s → Converts t s
converts_step {s = s} p = forth p (same s)

pub converts_reduces : {t s : Term} → ReducesTo t s → Converts t s
converts_reduces (done t) = same t
converts_reduces (then_step p ps) = forth p (converts_reduces ps)

pub converts_abs : {t s : Term} → Converts t s → Converts (abs t) (abs s)
converts_abs c = converts_map abs (λ x y p. in_abs p) c

pub converts_app : {t s u v : Term} → Converts t s → Converts u v → Converts (app t u) (app s v)
converts_app {s = s} {u = u} c d = converts_on (converts_map (λ z. app z u) (λ x y p. in_head u p) c) (converts_map (app s) (λ x y p. in_argument s p) d)

pub converts_apply : (us : List Term) {t s : Term} → Converts t s → Converts (apply t us) (apply s us)
converts_apply [] c = c
converts_apply (u ∷ us) c = converts_apply us (converts_app c (same u))

pub converts_fill : (f : Atom → Term) {t s : Term} → Converts t s → Converts (fill f t) (fill f s)
converts_fill f c = converts_map (fill f) (λ x y p. step_fill f p) c

pub converts_shift : {t s : Term} → Converts t s → Converts (shift 0 1 t) (shift 0 1 s)
converts_shift {t} {s} c = converts_on (converts_is (shift_one t)) (converts_on (converts_map (rename suc) (λ x y p. step_rename suc p) c) (converts_is (sym (shift_one s))))

-- terms put for atoms that convert, atom by atom
pub converts_atoms : (P : Atom → Type 0) (f g : Atom → Term) → ((a : Atom) → P a → Converts (f a) (g a)) → (d : ℕ) (t : Term) → Within P d t → Converts (fill f t) (fill g t)
converts_atoms P f g h d (index i) w = same (index i)
converts_atoms P f g h d (atom a) w = h a w
converts_atoms P f g h d (abs b) w = converts_abs (converts_atoms P (raise f) (raise g) (λ a p. converts_shift (h a p)) (suc d) b w)
converts_atoms P f g h d (app t u) w = converts_app (converts_atoms P f g h d t w.0) (converts_atoms P f g h d u w.1)

-- reduction makes no atom and no loose index
within_instead : (P : Atom → Type 0) (d : ℕ) (u : Term) → Within P d u → (i : ℕ) → i < suc d → Within P d (instead u i)
within_instead P d u w zero p = w
within_instead P d u w (suc i) p = let q : i < d = omega arith in q

pub within_step : (P : Atom → Type 0) (d : ℕ) {t s : Term} → Step t s → Within P d t → Within P d s
within_step P d (here (by_beta b u)) w = rw (substitute-subst u b) (within_subst P (instead u) (suc d) d (within_instead P d u w.1) b w.0)
within_step P d (here (by_eta t)) w = within_unrename P suc d (suc d) (λ i p. omega arith) t (transport (Within P (suc d)) (shift_one t) w.0)
within_step P d (in_abs p) w = within_step P (suc d) p w
within_step P d (in_head u p) w = (within_step P d p w.0, w.1)
within_step P d (in_argument t p) w = (w.0, within_step P d p w.1)

pub within_reduces : (P : Atom → Type 0) (d : ℕ) {t s : Term} → ReducesTo t s → Within P d t → Within P d s
within_reduces P d (done t) w = w
within_reduces P d (then_step p ps) w = within_reduces P d ps (within_step P d p w)
