-- Parts of a term: they stay parts under what is put into the term, and those of a typed term are typed.
use Rattle.std.proofs.Common.{◌≡◌, ℕ, suc, List, ◌∷◌, refl, sym, subst as transport, inl, inr}
use Rattle.lp_calculus.specs.Types.{Ty}
use Rattle.lp_calculus.specs.Term.{Term, index, atom, abs, app, shift, Atom, param}
use Rattle.lp_calculus.specs.Fill.{fill, raise}
use Rattle.lp_calculus.specs.Typing.{Context, Typed, atom_type}
use Rattle.lp_calculus.specs.Instance.{instance_term}
use Rattle.lp_calculus.proofs.Commutations.{fill_shift, substitute_shift}
use Rattle.lp_calculus.proofs.Typings.{typed_substitute}
use Rattle.lp_model.specs.Index.{instantiate, lifted}
use Rattle.lp_proof_laws.proofs.Flattened.TypedForms.{shift_typed}
use Rattle.lp_proof_laws.proofs.Flattened.Filled.{lifted_past, shift_past}
use Rattle.lp_search_laws.specs.Written.{StandsIn}

pub whole : (t : Term) → StandsIn t t
whole (index i) = refl
whole (atom a) = refl
whole (abs b) = inl refl
whole (app f a) = inl refl

same_part : (f : Term → Term) (t u : Term) → t ≡ u → StandsIn (f t) (f u)
same_part f t u e = transport (λ z. StandsIn (f t) (f z)) e (whole (f t))

-- terms put for indices
pub part_instantiate : (σ : ℕ → Term) (t u : Term) → StandsIn t u → StandsIn (instantiate σ t) (instantiate σ u)
part_instantiate σ t (index i) h = same_part (instantiate σ) t (index i) h
part_instantiate σ t (atom a) h = same_part (instantiate σ) t (atom a) h
part_instantiate σ t (abs b) h = elim h [
  | inl e ↦ same_part (instantiate σ) t (abs b) e
  | inr s ↦ inr (transport (λ z. StandsIn z (instantiate (lifted σ) b)) (lifted_past σ t) (part_instantiate (lifted σ) (shift 0 1 t) b s))
]
part_instantiate σ t (app f a) h = elim h [
  | inl e ↦ same_part (instantiate σ) t (app f a) e
  | inr s ↦ inr (elim s [ inl x ↦ inl (part_instantiate σ t f x) | inr x ↦ inr (part_instantiate σ t a x) ])
]

-- terms put for atoms
pub part_fill : (g : Atom → Term) (t u : Term) → StandsIn t u → StandsIn (fill g t) (fill g u)
part_fill g t (index i) h = same_part (fill g) t (index i) h
part_fill g t (atom a) h = same_part (fill g) t (atom a) h
part_fill g t (abs b) h = elim h [
  | inl e ↦ same_part (fill g) t (abs b) e
  | inr s ↦ inr (transport (λ z. StandsIn z (fill (raise g) b)) (fill_shift g 0 1 t) (part_fill (raise g) (shift 0 1 t) b s))
]
part_fill g t (app f a) h = elim h [
  | inl e ↦ same_part (fill g) t (app f a) e
  | inr s ↦ inr (elim s [ inl x ↦ inl (part_fill g t f x) | inr x ↦ inr (part_fill g t a x) ])
]

-- types put for type variables
pub part_instance : (θ : ℕ → Ty) (t u : Term) → StandsIn t u → StandsIn (instance_term θ t) (instance_term θ u)
part_instance θ t (index i) h = same_part (instance_term θ) t (index i) h
part_instance θ t (atom a) h = same_part (instance_term θ) t (atom a) h
part_instance θ t (abs b) h = elim h [
  | inl e ↦ same_part (instance_term θ) t (abs b) e
  | inr s ↦ inr (transport (λ z. StandsIn z (instance_term θ b)) (shift_typed θ 0 1 t) (part_instance θ (shift 0 1 t) b s))
]
part_instance θ t (app f a) h = elim h [
  | inl e ↦ same_part (instance_term θ) t (app f a) e
  | inr s ↦ inr (elim s [ inl x ↦ inl (part_instance θ t f x) | inr x ↦ inr (part_instance θ t a x) ])
]

-- raised indices
pub part_shift : (from : ℕ) (t u : Term) → StandsIn t u → StandsIn (shift from 1 t) (shift from 1 u)
part_shift from t (index i) h = same_part (shift from 1) t (index i) h
part_shift from t (atom a) h = same_part (shift from 1) t (atom a) h
part_shift from t (abs b) h = elim h [
  | inl e ↦ same_part (shift from 1) t (abs b) e
  | inr s ↦ inr (transport (λ z. StandsIn z (shift (suc from) 1 b)) (shift_past from t) (part_shift (suc from) (shift 0 1 t) b s))
]
part_shift from t (app f a) h = elim h [
  | inl e ↦ same_part (shift from 1) t (app f a) e
  | inr s ↦ inr (elim s [ inl x ↦ inl (part_shift from t f x) | inr x ↦ inr (part_shift from t a x) ])
]

-- a typed term without the index 0 is typed without it
lowered : (K : Context) (C : List Ty) (A : Ty) (t : Term) (T : Ty) → Typed K (A ∷ C) (shift 0 1 t) T → Typed K C t T
lowered K C A t T h = transport (λ z. Typed K C z T) (substitute_shift (atom (param 0 A)) t) (typed_substitute (atom_type K) C (atom (param 0 A)) (shift 0 1 t) A T refl h)

pub part_typed : (K : Context) (C : List Ty) (t u : Term) (T : Ty) → StandsIn t u → Typed K C u T → (U : Ty) × Typed K C t U
part_typed K C t (index i) T h w = (T, transport (λ z. Typed K C z T) (sym h) w)
part_typed K C t (atom a) T h w = (T, transport (λ z. Typed K C z T) (sym h) w)
part_typed K C t (abs b) T h w = elim h [
  | inl e ↦ (T, transport (λ z. Typed K C z T) (sym e) w)
  | inr s ↦ let r = part_typed K (w.0 ∷ C) (shift 0 1 t) b w.1 s w.3 in (r.0, lowered K C w.0 t r.0 r.1)
]
part_typed K C t (app f a) T h w = elim h [
  | inl e ↦ (T, transport (λ z. Typed K C z T) (sym e) w)
  | inr s ↦ elim s [ inl x ↦ part_typed K C t f _ x w.1 | inr x ↦ part_typed K C t a _ x w.2 ]
]
