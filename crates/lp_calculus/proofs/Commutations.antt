-- Shift, substitution and the filling of atoms, one after the other.
use Rattle.std.proofs.Common.{◌≡◌, ℕ, zero, suc, ◌∙◌, refl, sym, ap, arith}
use Rattle.std.proofs.lemmas.Bool.Decides.{nat_tests}
use mathlib.Core.Path.{fun_ext}
use Rattle.lp_calculus.specs.Types.{Ty}
use Rattle.lp_calculus.specs.Term.{Term, Atom, index, atom, abs, app, shift, substitute, replace, put_for}
use Rattle.lp_calculus.specs.Convert.{Converts, same, here, by_beta, by_eta}
use Rattle.lp_calculus.specs.Fill.{fill, raise}
use Rattle.lp_calculus.specs.Instance.{instance_atom, instance_term}
use Rattle.lp_calculus.proofs.Sigma.{lift, rename, subst, instead, rename-instead, subst-instead, subst-rename, subst-index}
use Rattle.lp_calculus.proofs.Plain.{bump, shift-rename, substitute-subst, replace-subst}
use Rattle.lp_calculus.proofs.BetaEta.{shift_one}
use Rattle.lp_calculus.proofs.Eta.{app_same}
use Rattle.lp_calculus.proofs.Fills.{fill-rename}
use Rattle.lp_calculus.proofs.Steps.{converts_on, converts_sym, converts_is, converts_step, converts_app, converts_abs, converts_shift, converts_fill}

bump_under : (by from i : ℕ) → bump by (suc from) i ≡ lift (bump by from) i
bump_under by from zero = grind (arith, nat_tests)
bump_under by from (suc i) = grind (arith, nat_tests)

pub shift_substitute : (from by : ℕ) (u b : Term) → shift from by (substitute u b) ≡ substitute (shift from by u) (shift (suc from) by b)
shift_substitute from by u b =
    shift-rename from by (substitute u b) ∙ ap (rename (bump by from)) (substitute-subst u b) ∙ rename-instead (bump by from) u b ∙
    sym (substitute-subst (shift from by u) (shift (suc from) by b) ∙
    ap (λ v. subst (instead v) (shift (suc from) by b)) (shift-rename from by u) ∙
    ap (subst (instead (rename (bump by from) u))) (shift-rename (suc from) by b ∙ ap (λ ρ. rename ρ b) (fun_ext (bump_under by from))))

-- two substitutions
pub substitute_substitute : (v u b : Term) → substitute v (substitute u b) ≡ substitute (substitute v u) (replace (put_for v) 1 b)
substitute_substitute v u b =
    substitute-subst v (substitute u b) ∙ ap (subst (instead v)) (substitute-subst u b) ∙ subst-instead (instead v) u b ∙
    sym (substitute-subst (substitute v u) (replace (put_for v) 1 b) ∙
    ap (λ w. subst (instead w) (replace (put_for v) 1 b)) (substitute-subst v u) ∙
    ap (subst (instead (subst (instead v) u))) (replace-subst v 1 b))

-- a value for an index that was raised past
pub substitute_shift : (u t : Term) → substitute u (shift 0 1 t) ≡ t
substitute_shift u t = substitute-subst u (shift 0 1 t) ∙ ap (subst (instead u)) (shift_one t) ∙ subst-rename suc (instead u) t ∙ subst-index t

pub fill_shift : (f : Atom → Term) (from by : ℕ) (t : Term) → fill (λ a. shift from by (f a)) (shift from by t) ≡ shift from by (fill f t)
fill_shift f from by t =
    ap (fill (λ a. shift from by (f a))) (shift-rename from by t) ∙
    fill-rename f (λ a. shift from by (f a)) (bump by from) (λ a. shift-rename from by (f a)) t ∙ sym (shift-rename from by (fill f t))

-- types for type variables are atoms for atoms
pub instance_fill : (θ : ℕ → Ty) (t : Term) → instance_term θ t ≡ fill (λ a. atom (instance_atom θ a)) t
instance_fill θ (index i) = refl
instance_fill θ (atom a) = refl
instance_fill θ (abs b) = ap abs (instance_fill θ b)
instance_fill θ (app t u) = app_same (instance_fill θ t) (instance_fill θ u)

pub instance_converts : (θ : ℕ → Ty) (t s : Term) → Converts t s → Converts (instance_term θ t) (instance_term θ s)
instance_converts θ t s c =
    converts_on (converts_is (instance_fill θ t)) (converts_on (converts_fill (λ a. atom (instance_atom θ a)) c) (converts_is (sym (instance_fill θ s))))

-- terms for atoms that convert, atom by atom
pub fills_convert : (f g : Atom → Term) → ((a : Atom) → Converts (f a) (g a)) → (t : Term) → Converts (fill f t) (fill g t)
fills_convert f g h (index i) = same (index i)
fills_convert f g h (atom a) = h a
fills_convert f g h (abs b) = converts_abs (fills_convert (raise f) (raise g) (λ a. converts_shift (h a)) b)
fills_convert f g h (app t u) = converts_app (fills_convert f g h t) (fills_convert f g h u)

-- what an abstraction converts to
lowered : (i : ℕ) → instead (index 0) (lift suc i) ≡ index i
lowered zero = refl
lowered (suc i) = refl

opened : (b : Term) → Converts (app (shift 0 1 (abs b)) (index 0)) b
opened b =
    converts_on (converts_is (ap (λ x. app x (index 0)) (shift_one (abs b))))
    (converts_on (converts_step (here (by_beta (rename (lift suc) b) (index 0))))
    (converts_is (substitute-subst (index 0) (rename (lift suc) b) ∙ subst-rename (lift suc) (instead (index 0)) b ∙ ap (λ θ. subst θ b) (fun_ext lowered) ∙ subst-index b)))

pub abstraction_opens : (b t : Term) → Converts (abs b) t → Converts b (app (shift 0 1 t) (index 0))
abstraction_opens b t c = converts_on (converts_sym (opened b)) (converts_app (converts_shift c) (same (index 0)))

pub abstraction_closes : (b t : Term) → Converts b (app (shift 0 1 t) (index 0)) → Converts (abs b) t
abstraction_closes b t c = converts_on (converts_abs c) (converts_step (here (by_eta t)))
