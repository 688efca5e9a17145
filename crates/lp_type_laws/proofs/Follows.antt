-- Types for the variables that follow others, and what binding a variable does to that.
use Rattle.std.proofs.Common.{◌≡◌, ℕ, List, sym, ap, ◌∙◌, subst}
use Rattle.std.specs.Prelude.{false}
use mathlib.Core.Path.{fun_ext}
use Rattle.lp_calculus.specs.Types.{Ty, var, instance}
use Rattle.lp_calculus.proofs.TypeLaws.{instance-instance}
use Rattle.lp_type_laws.specs.Equations.{Follows, Equation, one, occurs, AllHold}
use Rattle.lp_type_laws.specs.Solving.{binds, parts, nothing, look}
use Rattle.lp_type_laws.proofs.Types.{one_same, one_fixes, one_absent}
use Rattle.lp_type_laws.proofs.Looks.{Right, look_right}

-- putting θ first changes nothing
pub follows_type : (ρ θ : ℕ → Ty) → Follows ρ θ → (t : Ty) → instance ρ (instance θ t) ≡ instance ρ t
follows_type ρ θ f t = instance-instance θ ρ t ∙ ap (λ κ. instance κ t) (fun_ext f)

-- what follows the types after a binding
pub followed_before : (ρ θ ι : ℕ → Ty) (x : ℕ) (t : Ty) → ι ≡ (λ i. instance (one x t) (θ i)) → θ x ≡ var x → Follows ρ ι →
    (ρ x ≡ instance ρ t) × Follows ρ θ
followed_before ρ θ ι x t e l f = (at, λ y. sym (fixes (θ y)) ∙ ap (λ κ. instance ρ (κ y)) (sym e) ∙ f y)
  where
    at : ρ x ≡ instance ρ t
    at = sym (f x) ∙ ap (λ κ. instance ρ (κ x)) e ∙ ap (λ u. instance ρ (instance (one x t) u)) l ∙ ap (instance ρ) (one_same x t)

    fixes : (u : Ty) → instance ρ (instance (one x t) u) ≡ instance ρ u
    fixes u = follows_type ρ (one x t) (λ y. one_fixes ρ x t at y) u

-- types that follow themselves go on to do so
pub follows_bound : (θ ι : ℕ → Ty) (x : ℕ) (s : Ty) → ι ≡ (λ i. instance (one x (instance θ s)) (θ i)) → θ x ≡ var x → occurs x (instance θ s) ≡ false → Follows θ θ → Follows ι ι
follows_bound θ ι x s e l o f = subst (λ κ. Follows κ κ) (sym e) whole
  where
    t : Ty
    t = instance θ s

    ι' : ℕ → Ty
    ι' = λ i. instance (one x t) (θ i)

    before : Follows ι' θ
    before y = sym (instance-instance θ (one x t) (θ y)) ∙ ap (instance (one x t)) (f y)

    at : ι' x ≡ instance ι' t
    at = ap (instance (one x t)) l ∙ one_same x t ∙ sym (one_absent x t t o) ∙ ap (instance (one x t)) (sym (follows_type θ θ f s)) ∙ instance-instance θ (one x t) t

    whole : Follows ι' ι'
    whole y = follows_type ι' (one x t) (λ z. one_fixes ι' x t at z) (θ y) ∙ before y

-- equations, under what follows

pub binds_hold : (ρ : ℕ → Ty) (a b : Ty) (x : ℕ) (t : Ty) → look a b ≡ binds x t → ρ x ≡ instance ρ t → instance ρ a ≡ instance ρ b
binds_hold ρ a b x t e h = ((subst (λ l. Right a b l) e (look_right a b)).1 ρ).0 h

pub parts_hold : (ρ : ℕ → Ty) (a b : Ty) (es : List Equation) → look a b ≡ parts es → AllHold ρ es → instance ρ a ≡ instance ρ b
parts_hold ρ a b es e h = ((subst (λ l. Right a b l) e (look_right a b)) ρ).0 h

pub nothing_holds : (ρ : ℕ → Ty) (a b : Ty) → look a b ≡ nothing → instance ρ a ≡ instance ρ b
nothing_holds ρ a b e = (subst (λ l. Right a b l) e (look_right a b)) ρ
