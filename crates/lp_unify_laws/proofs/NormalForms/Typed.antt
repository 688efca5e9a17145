-- Typed terms weigh something, and so do terms that are typed once types are put for their type variables: these reduce in the same way.
use Rattle.std.proofs.Common.{◌≡◌, ℕ, suc, ◌+◌, List, ◌∙◌, refl, sym, ap, Option, Some, None}
use Rattle.lp_calculus.specs.Types.{Ty}
use Rattle.lp_calculus.specs.Term.{Term, Atom, index, atom, abs, app}
use Rattle.lp_calculus.specs.Convert.{leftmost_step, option_term}
use Rattle.lp_calculus.specs.Instance.{instance_term}
use Rattle.lp_calculus.specs.Typing.{HasType}
use Rattle.lp_unify_laws.proofs.TypeInstances.{instance_leftmost}
use Rattle.lp_unify_laws.proofs.NormalForms.Ends.{none_mapped}
use Rattle.lp_unify_laws.proofs.NormalForms.Computable.{typed_ends}
use Rattle.lp_unify_laws.proofs.NormalForms.Weights.{weight, Weighs, rests, goes, weighs}

pub typed_weighs : (τ : Atom → Option Ty) (C : List Ty) (t : Term) (T : Ty) → HasType τ C t T → (w : ℕ) × Weighs t w
typed_weighs τ C t T h = weighs (typed_ends τ C t T h)

weight_instance : (θ : ℕ → Ty) (t : Term) → weight (instance_term θ t) ≡ weight t
weight_instance θ (index i) = refl
weight_instance θ (atom a) = refl
weight_instance θ (abs b) = ap (λ z. suc (suc z)) (weight_instance θ b)
weight_instance θ (app t u) = λ i. suc (weight_instance θ t i + weight_instance θ u i)

mapped_is : (f : Term → Term) (o : Option Term) (s : Term) → option_term f o ≡ Some s → (c : Term) × ((o ≡ Some c) × (s ≡ f c))
mapped_is f None s e = absurd (cc)
mapped_is f (Some c) s e = (c, (refl, cc))

pub instance_weighs : (θ : ℕ → Ty) {x : Term} {w : ℕ} → Weighs x w → (t : Term) → x ≡ instance_term θ t → Weighs t w
instance_weighs θ (rests e i) t j = rests (none_mapped (instance_term θ) (leftmost_step t) (sym (instance_leftmost θ t) ∙ sym (ap leftmost_step j) ∙ e)) (i ∙ ap weight j ∙ weight_instance θ t)
instance_weighs θ (goes {s = s} e more) t j =
    let c = mapped_is (instance_term θ) (leftmost_step t) s (sym (instance_leftmost θ t) ∙ sym (ap leftmost_step j) ∙ e) in
    goes c.1.0 (instance_weighs θ more c.0 c.1.1)

pub side_weighs : (θ : ℕ → Ty) (τ : Atom → Option Ty) (C : List Ty) (t : Term) (T : Ty) → HasType τ C (instance_term θ t) T → (w : ℕ) × Weighs t w
side_weighs θ τ C t T h = let r = typed_weighs τ C (instance_term θ t) T h in (r.0, instance_weighs θ r.1 t refl)
