-- Types put one after the other are put at once, and change nothing under types that satisfy them.
use Rattle.std.proofs.Common.{◌≡◌, ℕ, List, [], ◌∷◌, map, ◌∙◌, refl, sym, ap}
use mathlib.Core.Path.{fun_ext}
use Rattle.lp_calculus.specs.Types.{Ty, var, instance}
use Rattle.lp_calculus.specs.Term.{Term}
use Rattle.lp_calculus.specs.Instance.{instance_term}
use Rattle.lp_calculus.proofs.TypeLaws.{instance-instance}
use Rattle.lp_model.specs.Types.{TypeBinding, one_type, put_type, put_types}
use Rattle.lp_model.specs.Pair.{put_types_in, put_type_in}
use Rattle.lp_unify_laws.specs.TypeSolutions.{Satisfies}
use Rattle.lp_unify_laws.proofs.TypeSolving.{put_satisfied}
use Rattle.lp_model.specs.Pair.{Pair}
use Rattle.lp_unify_laws.proofs.Identities.{instance_same, pair_same, term_twice, map_twice}
use Rattle.lp_search_laws.specs.Behind.{types_of}

pub put_types_is : (ts : List TypeBinding) (T : Ty) → put_types ts T ≡ instance (types_of ts) T
put_types_is [] T = sym (instance_same T)
put_types_is (b ∷ bs) T =
    put_types_is bs (put_type b T) ∙ instance-instance (one_type b) (types_of bs) T ∙ ap (λ θ. instance θ T) (fun_ext (λ i. sym (put_types_is bs (one_type b i))))

same_term : (t : Term) → instance_term var t ≡ t
same_term t = ap (λ (p : Pair). p.left) (pair_same (record { left = t; right = t; level = 0 }))

pub put_types_in_is : (ts : List TypeBinding) (t : Term) → put_types_in ts t ≡ instance_term (types_of ts) t
put_types_in_is [] t = sym (same_term t)
put_types_in_is (b ∷ bs) t =
    put_types_in_is bs (put_type_in b t) ∙ term_twice (types_of bs) (one_type b) t ∙ ap (λ θ. instance_term θ t) (fun_ext (λ i. sym (put_types_is bs (one_type b i))))

put_types_satisfied : (θ : ℕ → Ty) (bs : List TypeBinding) → Satisfies θ bs → (T : Ty) → instance θ (put_types bs T) ≡ instance θ T
put_types_satisfied θ [] h T = refl
put_types_satisfied θ (b ∷ bs) h T = put_types_satisfied θ bs h.1 (put_type b T) ∙ put_satisfied θ b h.0 T

-- so they are the most general ones
pub satisfied_types : (θ : ℕ → Ty) (bs : List TypeBinding) → Satisfies θ bs → (i : ℕ) → instance θ (types_of bs i) ≡ θ i
satisfied_types θ bs h i = put_types_satisfied θ bs h (var i)

pub satisfied_instance : (θ : ℕ → Ty) (bs : List TypeBinding) → Satisfies θ bs → (T : Ty) → instance θ (instance (types_of bs) T) ≡ instance θ T
satisfied_instance θ bs h T = instance-instance (types_of bs) θ T ∙ ap (λ f. instance f T) (fun_ext (satisfied_types θ bs h))

pub satisfied_term : (θ : ℕ → Ty) (bs : List TypeBinding) → Satisfies θ bs → (t : Term) → instance_term θ (instance_term (types_of bs) t) ≡ instance_term θ t
satisfied_term θ bs h t = term_twice θ (types_of bs) t ∙ ap (λ f. instance_term f t) (fun_ext (satisfied_types θ bs h))

pub satisfied_all : (θ : ℕ → Ty) (bs : List TypeBinding) → Satisfies θ bs → (Ts : List Ty) → map (instance θ) (map (instance (types_of bs)) Ts) ≡ map (instance θ) Ts
satisfied_all θ bs h Ts = map_twice (instance (types_of bs)) (instance θ) (instance θ) (satisfied_instance θ bs h) Ts
