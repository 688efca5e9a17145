-- Terms that reduce to pattern terms: what reduction, parts, and what is put in make of them.
use Rattle.std.proofs.Common.{◌≡◌, ℕ, zero, suc, List, [], ◌∷◌, refl, sym, ap, ◌∙◌, subst as transport}
use Rattle.lp_calculus.specs.Term.{Term, Atom, index, atom, abs, app, apply, shift, eigen}
use Rattle.lp_calculus.specs.Convert.{here, in_abs, in_head, in_argument, by_beta, by_eta, ReducesTo, done, then_step}
use Rattle.lp_calculus.specs.Fill.{raise, fill}
use Rattle.lp_calculus.specs.Normal.{IsHead}
use Rattle.lp_calculus.specs.Spine.{head_of}
use Rattle.lp_calculus.proofs.BetaEta.{many_on, conversion_meets, shift_one}
use Rattle.lp_calculus.proofs.Fills.{up_suc}
use Rattle.lp_calculus.proofs.Plain.{substitute-subst}
use Rattle.lp_calculus.proofs.Sigma.{rename, up, subst, subst-instead}
use Rattle.lp_calculus.proofs.Steps.{Step, step_fill, step_rename, converts_on, converts_sym, converts_reduces}
use Rattle.lp_pattern_laws.specs.Patterns.{Name, free, IsNewTo, an_eigen, IsPatternTerm, on_name, IsPattern}
use Rattle.lp_pattern_laws.proofs.Apart.{pattern_apart}
use Rattle.lp_pattern_laws.proofs.Reduced.{new_step, pattern_reduces}

-- reduction goes through everything
reduces_map : (f : Term → Term) → ((t s : Term) → Step t s → Step (f t) (f s)) → {t s : Term} → ReducesTo t s → ReducesTo (f t) (f s)
reduces_map f h (done t) = done (f t)
reduces_map f h (then_step p ps) = then_step (h _ _ p) (reduces_map f h ps)

pub reduces_abs : {t s : Term} → ReducesTo t s → ReducesTo (abs t) (abs s)
reduces_abs r = reduces_map abs (λ x y p. in_abs p) r

pub reduces_both : {t s u v : Term} → ReducesTo t s → ReducesTo u v → ReducesTo (app t u) (app s v)
reduces_both {s = s} {u = u} r q = many_on (reduces_map (λ z. app z u) (λ x y p. in_head u p) r) (reduces_map (app s) (λ x y p. in_argument s p) q)

pub reduces_fill : (f : Atom → Term) {t s : Term} → ReducesTo t s → ReducesTo (fill f t) (fill f s)
reduces_fill f r = reduces_map (fill f) (λ x y p. step_fill f p) r

pub reduces_rename : (ρ : ℕ → ℕ) {t s : Term} → ReducesTo t s → ReducesTo (rename ρ t) (rename ρ s)
reduces_rename ρ r = reduces_map (rename ρ) (λ x y p. step_rename ρ p) r

step_subst : (σ : ℕ → Term) {t s : Term} → Step t s → Step (subst σ t) (subst σ s)
step_subst σ (here (by_beta b u)) =
    transport (Step (app (abs (subst (up σ) b)) (subst σ u))) (sym (ap (subst σ) (substitute-subst u b) ∙ subst-instead σ u b ∙ sym
    (substitute-subst (subst σ u) (subst (up σ) b)))) (here (by_beta (subst (up σ) b) (subst σ u)))
step_subst σ (here (by_eta t)) =
    transport (λ z. Step (abs (app z (index 0))) (subst σ t)) (sym (ap (subst (up σ)) (shift_one t) ∙ sym (up_suc σ t) ∙ sym (shift_one (subst σ t)))) (here (by_eta (subst σ t)))
step_subst σ (in_abs p) = in_abs (step_subst (up σ) p)
step_subst σ (in_head u p) = in_head (subst σ u) (step_subst σ p)
step_subst σ (in_argument t p) = in_argument (subst σ t) (step_subst σ p)

pub reduces_subst : (σ : ℕ → Term) {t s : Term} → ReducesTo t s → ReducesTo (subst σ t) (subst σ s)
reduces_subst σ r = reduces_map (subst σ) (λ x y p. step_subst σ p) r

-- and so it does where terms that are put reduce
pub reduces_raise : {t s : Term} → ReducesTo t s → ReducesTo (shift 0 1 t) (shift 0 1 s)
reduces_raise {t} {s} r = transport (λ z. ReducesTo z (shift 0 1 s)) (sym (shift_one t)) (transport (ReducesTo (rename suc t)) (sym (shift_one s)) (reduces_rename suc r))

pub reduces_fills : (f g : Atom → Term) → ((a : Atom) → ReducesTo (f a) (g a)) → (t : Term) → ReducesTo (fill f t) (fill g t)
reduces_fills f g h (index i) = done (index i)
reduces_fills f g h (atom a) = h a
reduces_fills f g h (abs b) = reduces_abs (reduces_fills (raise f) (raise g) (λ a. reduces_raise (h a)) b)
reduces_fills f g h (app t u) = reduces_both (reduces_fills f g h t) (reduces_fills f g h u)

pub reduces_substs : (σ τ : ℕ → Term) → ((i : ℕ) → ReducesTo (σ i) (τ i)) → (t : Term) → ReducesTo (subst σ t) (subst τ t)
reduces_substs σ τ h (index i) = h i
reduces_substs σ τ h (atom a) = done (atom a)
reduces_substs σ τ h (abs b) = reduces_abs (reduces_substs (up σ) (up τ) raised b)
  where
    raised : (i : ℕ) → ReducesTo (up σ i) (up τ i)
    raised zero = done (index 0)
    raised (suc i) = reduces_rename suc (h i)
reduces_substs σ τ h (app t u) = reduces_both (reduces_substs σ τ h t) (reduces_substs σ τ h u)

-- pattern terms are such terms, and what comes before or behind one is
pub of_term : {t : Term} → IsPatternTerm t → IsPattern t
of_term {t} p = record { form = t; reduces = done t; pattern = p }

pub pattern_goes : {t s : Term} → ReducesTo t s → IsPattern t → IsPattern s
pattern_goes r h =
    let m = conversion_meets (converts_on (converts_sym (converts_reduces r)) (converts_reduces h.reduces)) in
    record { form = m.0; reduces = m.1; pattern = pattern_reduces m.2 h.pattern }

pub pattern_back : {t s : Term} → ReducesTo t s → IsPattern s → IsPattern t
pattern_back r h = record { form = h.form; reduces = many_on r h.reduces; pattern = h.pattern }

pub new_reduces : {t s : Term} → ReducesTo t s → (n : Name) → IsNewTo n t → IsNewTo n s
new_reduces (done t) n h = h
new_reduces (then_step p ps) n h = new_reduces ps n (new_step p n h)

-- on an eigenconstant that is new
pub on_eigen : (t : Term) (k : ℕ) → IsPattern t → IsNewTo (free k) t → IsPattern (app t (atom (eigen k)))
on_eigen t k h new = record {
  form = app h.form (atom (eigen k));
  reduces = reduces_both h.reduces (done (atom (eigen k)));
  pattern = on_name h.pattern (an_eigen k) (new_reduces h.reduces (free k) new);
}

-- a term with a head and its arguments reduce each for itself
record IsApp (t u r : Term) : Type 0 where
  function : Term
  argument : Term
  is : r ≡ app function argument
  left : ReducesTo t function
  right : ReducesTo u argument
  head : IsHead (head_of function)

head_kept : {t s : Term} → IsHead (head_of t) → Step t s → IsHead (head_of s)
head_kept h (here (by_beta b u)) = absurd h
head_kept h (here (by_eta t)) = absurd h
head_kept h (in_abs p) = absurd h
head_kept h (in_head u p) = head_kept h p
head_kept h (in_argument t p) = h

app_step : {t u r : Term} → IsHead (head_of t) → Step (app t u) r → IsApp t u r
app_step h (here (by_beta b u)) = absurd h
app_step h (in_head u p) = record { function = _; argument = u; is = refl; left = then_step p (done _); right = done u; head = head_kept h p }
app_step h (in_argument t p) = record { function = t; argument = _; is = refl; left = done t; right = then_step p (done _); head = h }

app_reduces : {s w : Term} → ReducesTo s w → (t u : Term) → s ≡ app t u → IsHead (head_of t) → IsApp t u w
app_reduces (done s) t u e h = record { function = t; argument = u; is = e; left = done t; right = done u; head = h }
app_reduces (then_step {s = r} p ps) t u e h =
    let x = app_step h (transport (λ z. Step z r) e p) in
    let y = app_reduces ps x.function x.argument x.is x.head in
    record { function = y.function; argument = y.argument; is = y.is; left = many_on x.left y.left; right = many_on x.right y.right; head = y.head }

pub parted : (t u : Term) → IsHead (head_of t) → IsPattern (app t u) → IsPattern t × IsPattern u
parted t u i h =
    let x = app_reduces h.reduces t u refl i in
    let a = pattern_apart (transport IsPatternTerm x.is h.pattern) in
    (record { form = x.function; reduces = x.left; pattern = a.0 }, record { form = x.argument; reduces = x.right; pattern = a.1 })

-- the arguments of a head
pub data EachReduces : List Term → List Term → Type 0 where
  none_reduce : EachReduces [] []
  more_reduce : {t u : Term} {ts us : List Term} → ReducesTo t u → EachReduces ts us → EachReduces (t ∷ ts) (u ∷ us)

pub record IsSpine (h : Term) (ts : List Term) (w : Term) : Type 0 where
  pub head : Term
  pub arguments : List Term
  pub is : w ≡ apply head arguments
  pub leads : ReducesTo h head
  pub each : EachReduces ts arguments

pub spine_reduces : (ts : List Term) (h w : Term) → IsHead (head_of h) → ReducesTo (apply h ts) w → IsSpine h ts w
spine_reduces [] h w i r = record { head = w; arguments = []; is = refl; leads = r; each = none_reduce }
spine_reduces (t ∷ ts) h w i r =
    let s = spine_reduces ts (app h t) w i r in
    let x = app_reduces s.leads h t refl i in
    record { head = x.function; arguments = x.argument ∷ s.arguments; is = s.is ∙ ap (λ z. apply z s.arguments) x.is; leads = x.left; each = more_reduce x.right s.each }
