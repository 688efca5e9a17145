-- Typing is kept by closings and by types for type variables, and that of an application fits its parts.
use Rattle.std.proofs.Common.{◌≡◌, ℕ, zero, suc, List, [], ◌∷◌, map, length, ◌∙◌, refl, sym, ap, subst as transport, Bool, true, false, nat_eq, if◌then◌else◌, Option, Some, None}
use Rattle.std.specs.Prelude.{slice_get, option_map}
use mathlib.Core.Path.{fun_ext}
use Rattle.lp_calculus.specs.Types.{Ty, arrow, instance}
use Rattle.lp_calculus.specs.Term.{Term, Atom, index, atom, abs, app, apply, constant, integer, text, eigen, logic, param, substitute}
use Rattle.lp_calculus.specs.Fill.{close, at_variables}
use Rattle.lp_calculus.specs.Typing.{Scheme, type_at, scheme_type, Context, atom_type, HasType, HaveTypes, Typed, IsClosingMap}
use Rattle.lp_calculus.specs.Instance.{instance_atom, instance_term, instance_context}
use Rattle.lp_calculus.proofs.TypeLaws.{instance-instance}
use Rattle.lp_calculus.proofs.Sigma.{instead}
use Rattle.lp_calculus.proofs.Plain.{substitute-subst}
use Rattle.lp_calculus.proofs.Subject.{typed_subst, typed_instead, typed_fill, more_typed}

pub typed_substitute : (τ : Atom → Option Ty) (C : List Ty) (u b : Term) (A B : Ty) → HasType τ C u A → HasType τ (A ∷ C) b B → HasType τ C (substitute u b) B
typed_substitute τ C u b A B w v = transport (λ z. HasType τ C z B) (sym (substitute-subst u b)) (typed_subst τ (A ∷ C) C (instead u) (typed_instead τ C u A w) b B v)

pub typed_close : (K L : Context) (σ : ℕ → ℕ → Term) (C : List Ty) (t : Term) (T : Ty) → IsClosingMap K L σ → Typed K C t T → Typed L C (close σ t) T
typed_close K L σ C t T h w =
    typed_fill (atom_type K) (atom_type L) C (at_variables σ) (λ a A e. more_typed (atom_type L) [] (at_variables σ a) A C (λ i D g. absurd (cc)) (h a A e)) t T w

-- types for type variables
entry_at : (θ : ℕ → Ty) (ts : List Ty) (i : ℕ) → type_at (map (instance θ) ts) i ≡ instance θ (type_at ts i)
entry_at θ [] i = refl
entry_at θ (t ∷ ts) zero = refl
entry_at θ (t ∷ ts) (suc i) = entry_at θ ts i

get_map : (θ : ℕ → Ty) (C : List Ty) (i : ℕ) (A : Ty) → slice_get C i ≡ Some A → slice_get (map (instance θ) C) i ≡ Some (instance θ A)
get_map θ [] i A e = absurd (cc)
get_map θ (t ∷ ts) zero A e = let q : t ≡ A = cc in ap (λ z. Some (instance θ z)) q
get_map θ (t ∷ ts) (suc i) A e = get_map θ ts i A e

length_map : (θ : ℕ → Ty) (ts : List Ty) → length (map (instance θ) ts) ≡ length ts
length_map θ [] = refl
length_map θ (t ∷ ts) = ap suc (length_map θ ts)

scheme_instance : (θ : ℕ → Ty) (ts : List Ty) (o : Option Scheme) (A : Ty) → scheme_type ts o ≡ Some A → scheme_type (map (instance θ) ts) o ≡ Some (instance θ A)
scheme_instance θ ts None A e = absurd (cc)
scheme_instance θ ts (Some s) A e =
    ap (λ n. if nat_eq n s.count then Some (instance (type_at (map (instance θ) ts)) s.body) else None) (length_map θ ts) ∙ go (nat_eq (length ts) s.count) e
  where
    body : instance (type_at (map (instance θ) ts)) s.body ≡ instance θ (instance (type_at ts) s.body)
    body = ap (λ f. instance f s.body) (fun_ext (entry_at θ ts)) ∙ sym (instance-instance (type_at ts) θ s.body)

    go : (b : Bool) → (if b then Some (instance (type_at ts) s.body) else None) ≡ Some A → (if b then Some (instance (type_at (map (instance θ) ts)) s.body) else None) ≡ Some (instance θ A)
    go true h = let q : instance (type_at ts) s.body ≡ A = cc in ap (λ z. Some z) (body ∙ ap (instance θ) q)
    go false h = absurd (cc)

atom_instance : (θ : ℕ → Ty) (K : Context) (a : Atom) (A : Ty) → atom_type K a ≡ Some A → atom_type (instance_context θ K) (instance_atom θ a) ≡ Some (instance θ A)
atom_instance θ K (constant c ts) A e = scheme_instance θ ts (K.declared c) A e
atom_instance θ K (integer z) A e = ap (option_map (instance θ)) e
atom_instance θ K (text s) A e = ap (option_map (instance θ)) e
atom_instance θ K (eigen zero) A e = absurd (cc)
atom_instance θ K (eigen (suc k)) A e = get_map θ K.eigens k A e
atom_instance θ K (logic x l) A e = ap (option_map (instance θ)) e
atom_instance θ K (param k T) A e = ap (option_map (instance θ)) e

pub typed_instance : (θ : ℕ → Ty) (τ κ : Atom → Option Ty) → ((a : Atom) (A : Ty) → τ a ≡ Some A → κ (instance_atom θ a) ≡ Some (instance θ A)) → (C : List Ty) (t : Term) (T : Ty) → HasType τ C t T →
    HasType κ (map (instance θ) C) (instance_term θ t) (instance θ T)
typed_instance θ τ κ h C (index i) T w = get_map θ C i T w
typed_instance θ τ κ h C (atom a) T w = h a T w
typed_instance θ τ κ h C (abs b) T w = (instance θ w.0, instance θ w.1, ap (instance θ) w.2, typed_instance θ τ κ h (w.0 ∷ C) b w.1 w.3)
typed_instance θ τ κ h C (app t u) T w = (instance θ w.0, typed_instance θ τ κ h C t (arrow w.0 T) w.1, typed_instance θ τ κ h C u w.0 w.2)

pub instance_typed : (θ : ℕ → Ty) (K : Context) (C : List Ty) (t : Term) (T : Ty) → Typed K C t T → Typed (instance_context θ K) (map (instance θ) C) (instance_term θ t) (instance θ T)
instance_typed θ K C t T w = typed_instance θ (atom_type K) (atom_type (instance_context θ K)) (atom_instance θ K) C t T w

-- an application and its parts
pub typed_parts : (τ : Atom → Option Ty) (C : List Ty) (h : Term) (ts : List Term) (T : Ty) → HasType τ C (apply h ts) T → (A : Ty) × HasType τ C h A × HaveTypes τ C A ts T
typed_parts τ C h [] T w = (T, w, refl)
typed_parts τ C h (t ∷ ts) T w = let r = typed_parts τ C (app h t) ts T w in (arrow r.1.0 r.0, r.1.1, (r.1.0, r.0, refl, r.1.2, r.2))

pub parts_typed : (τ : Atom → Option Ty) (C : List Ty) (h : Term) (ts : List Term) (A T : Ty) → HasType τ C h A → HaveTypes τ C A ts T → HasType τ C (apply h ts) T
parts_typed τ C h [] A T w v = transport (HasType τ C h) v w
parts_typed τ C h (t ∷ ts) A T w v = parts_typed τ C (app h t) ts v.1 T (v.0, transport (HasType τ C h) v.2 w, v.3) v.4
