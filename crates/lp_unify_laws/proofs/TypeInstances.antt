-- Types put for type variables go past substitution, past each step of reduction, and past eta.
use Rattle.std.proofs.Common.{◌≡◌, ℕ, zero, suc, ◌∙◌, sym, refl, ap, Bool, true, false, if◌then◌else◌, Option, Some, None}
use Rattle.std.specs.Prelude.{◌&&◌}
use Rattle.lp_calculus.specs.Types.{Ty}
use Rattle.lp_calculus.specs.Term.{Term, Atom, index, atom, abs, app, substitute}
use Rattle.lp_calculus.specs.Convert.{head_step, leftmost_step, option_term, or_else}
use Rattle.lp_calculus.specs.Instance.{instance_atom, instance_term}
use Rattle.lp_calculus.specs.Normal.{is_absent, contracted, eta_normal}
use Rattle.lp_calculus.proofs.Fills.{fill-substitute}
use Rattle.lp_calculus.proofs.Eta.{app_same}
use Rattle.lp_calculus.proofs.Commutations.{instance_fill}

-- types put for type variables, as a filling
abbrev pub typed_by : (ℕ → Ty) → Atom → Term
typed_by θ a = atom (instance_atom θ a)

pub instance_substitute : (θ : ℕ → Ty) (u b : Term) → instance_term θ (substitute u b) ≡ substitute (instance_term θ u) (instance_term θ b)
instance_substitute θ u b = instance_fill θ (substitute u b) ∙ fill-substitute (typed_by θ) u b ∙ (λ i. substitute (sym (instance_fill θ u) i) (sym (instance_fill θ b) i))

-- reduction
pub term_map : (f g : Term → Term) (h k : Term → Term) (o o' : Option Term) → o' ≡ option_term f o → ((t : Term) → g (f t) ≡ h (k t)) → option_term g o' ≡ option_term h (option_term k o)
term_map f g h k None o' e q = ap (option_term g) e
term_map f g h k (Some t) o' e q = ap (option_term g) e ∙ ap (λ z. Some z) (q t)

pub or_map : (f : Term → Term) (o p o' p' : Option Term) → o' ≡ option_term f o → p' ≡ option_term f p → or_else o' p' ≡ option_term f (or_else o p)
or_map f None p o' p' e q = ap (λ z. or_else z p') e ∙ q
or_map f (Some t) p o' p' e q = ap (λ z. or_else z p') e

pub instance_head_step : (θ : ℕ → Ty) (t : Term) → head_step (instance_term θ t) ≡ option_term (instance_term θ) (head_step t)
instance_head_step θ (index i) = refl
instance_head_step θ (atom a) = refl
instance_head_step θ (abs b) = term_map (instance_term θ) abs (instance_term θ) abs (head_step b) (head_step (instance_term θ b)) (instance_head_step θ b) (λ t. refl)
instance_head_step θ (app (abs b) u) = ap (λ z. Some z) (sym (instance_substitute θ u b))
instance_head_step θ (app (index i) u) = refl
instance_head_step θ (app (atom a) u) = refl
instance_head_step θ (app (app t v) u) = term_map (instance_term θ) (λ s. app s (instance_term θ u)) (instance_term θ) (λ s. app s u) (head_step (app t v)) (head_step (instance_term θ (app t v))) (instance_head_step θ (app t v)) (λ s. refl)

pub instance_leftmost : (θ : ℕ → Ty) (t : Term) → leftmost_step (instance_term θ t) ≡ option_term (instance_term θ) (leftmost_step t)
instance_leftmost θ (index i) = refl
instance_leftmost θ (atom a) = refl
instance_leftmost θ (abs b) = term_map (instance_term θ) abs (instance_term θ) abs (leftmost_step b) (leftmost_step (instance_term θ b)) (instance_leftmost θ b) (λ t. refl)
instance_leftmost θ (app (abs b) u) = ap (λ z. Some z) (sym (instance_substitute θ u b))
instance_leftmost θ (app (index i) u) = term_map (instance_term θ) (app (index i)) (instance_term θ) (app (index i)) (leftmost_step u) (leftmost_step (instance_term θ u)) (instance_leftmost θ u) (λ s. refl)
instance_leftmost θ (app (atom a) u) = term_map (instance_term θ) (app (atom (instance_atom θ a))) (instance_term θ) (app (atom a)) (leftmost_step u) (leftmost_step (instance_term θ u)) (instance_leftmost θ u) (λ s. refl)
instance_leftmost θ (app (app t v) u) =
    or_map (instance_term θ) (option_term (λ s. app s u) (leftmost_step (app t v))) (option_term (app (app t v)) (leftmost_step u))
    (option_term (λ s. app s (instance_term θ u)) (leftmost_step (instance_term θ (app t v)))) (option_term (app (instance_term θ (app t v))) (leftmost_step (instance_term θ u)))
    (term_map (instance_term θ) (λ s. app s (instance_term θ u)) (instance_term θ) (λ s. app s u) (leftmost_step (app t v)) (leftmost_step (instance_term θ (app t v))) (instance_leftmost θ (app t v)) (λ s. refl))
    (term_map (instance_term θ) (app (instance_term θ (app t v))) (instance_term θ) (app (app t v)) (leftmost_step u) (leftmost_step (instance_term θ u)) (instance_leftmost θ u) (λ s. refl))

-- eta
pub absent_instance : (θ : ℕ → Ty) (d : ℕ) (t : Term) → is_absent d (instance_term θ t) ≡ is_absent d t
absent_instance θ d (index i) = refl
absent_instance θ d (atom a) = refl
absent_instance θ d (abs b) = absent_instance θ (suc d) b
absent_instance θ d (app t u) = λ i. absent_instance θ d t i && absent_instance θ d u i

if_instance : (θ : ℕ → Ty) (b : Bool) (t u : Term) → (if b then instance_term θ t else instance_term θ u) ≡ instance_term θ (if b then t else u)
if_instance θ true t u = refl
if_instance θ false t u = refl

contracted_instance : (θ : ℕ → Ty) (b : Term) → contracted (instance_term θ b) ≡ instance_term θ (contracted b)
contracted_instance θ (index i) = refl
contracted_instance θ (atom a) = refl
contracted_instance θ (abs b) = refl
contracted_instance θ (app t (index zero)) =
    (λ i. if absent_instance θ 0 t i then sym (instance_substitute θ (index 0) t) i else abs (app (instance_term θ t) (index zero))) ∙ if_instance θ (is_absent 0 t) (substitute (index 0) t) (abs (app t (index zero)))
contracted_instance θ (app t (index (suc i))) = refl
contracted_instance θ (app t (atom a)) = refl
contracted_instance θ (app t (abs b)) = refl
contracted_instance θ (app t (app u v)) = refl

pub eta_instance : (θ : ℕ → Ty) (t : Term) → eta_normal (instance_term θ t) ≡ instance_term θ (eta_normal t)
eta_instance θ (index i) = refl
eta_instance θ (atom a) = refl
eta_instance θ (abs b) = ap contracted (eta_instance θ b) ∙ contracted_instance θ (eta_normal b)
eta_instance θ (app t u) = app_same (eta_instance θ t) (eta_instance θ u)
