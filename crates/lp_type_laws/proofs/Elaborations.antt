-- What elaborates is typed and leaves the raw term; and where nothing is annotated these two are all.
use Rattle.std.proofs.Common.{ℕ, List, ◌∷◌, Some, None, sym, subst}
use Rattle.lp_calculus.specs.Types.{Ty, arrow}
use Rattle.lp_calculus.specs.Term.{Term, abs, app}
use Rattle.lp_type_laws.specs.Typing.{Raw, raw_index, raw_constant, raw_integer, raw_text, raw_abs, raw_app, Scheme, HasType, Leaves, Elaborates}

pub elaborates_typed : (S : ℕ → Scheme) (κ : ℕ → Ty) (C : List Ty) (r : Raw) (t : Term) (A : Ty) → Elaborates S κ C r t A → HasType S C t A
elaborates_typed S κ C (raw_index i) t A h = subst (λ s. HasType S C s A) (sym h.0) h.1
elaborates_typed S κ C (raw_constant c) t A h = subst (λ s. HasType S C s A) (sym h.1) h.2
elaborates_typed S κ C (raw_integer z) t A h = subst (λ s. HasType S C s A) (sym h.0) h.1
elaborates_typed S κ C (raw_text s) t A h = subst (λ u. HasType S C u A) (sym h.0) h.1
elaborates_typed S κ C (raw_abs given b) t A h =
    subst (λ s. HasType S C s A) (sym h.1) (h.2, h.3, h.4, elaborates_typed S κ (h.2 ∷ C) b h.0 h.3 h.6)
elaborates_typed S κ C (raw_app f u) t A h =
    subst (λ s. HasType S C s A) (sym h.2) (h.3, elaborates_typed S κ C f h.0 (arrow h.3 A) h.4, elaborates_typed S κ C u h.1 h.3 h.5)

pub elaborates_leaves : (S : ℕ → Scheme) (κ : ℕ → Ty) (C : List Ty) (r : Raw) (t : Term) (A : Ty) → Elaborates S κ C r t A → Leaves t r
elaborates_leaves S κ C (raw_index i) t A h = h.0
elaborates_leaves S κ C (raw_constant c) t A h = (h.0, h.1)
elaborates_leaves S κ C (raw_integer z) t A h = h.0
elaborates_leaves S κ C (raw_text s) t A h = h.0
elaborates_leaves S κ C (raw_abs given b) t A h = (h.0, h.1, elaborates_leaves S κ (h.2 ∷ C) b h.0 h.3 h.6)
elaborates_leaves S κ C (raw_app f u) t A h = (h.0, h.1, h.2, elaborates_leaves S κ C f h.0 (arrow h.3 A) h.4, elaborates_leaves S κ C u h.1 h.3 h.5)

abbrev pub IsPlain : Raw → Type 0
IsPlain (raw_abs None b) = IsPlain b
IsPlain (raw_abs (Some given) b) = ⊥
IsPlain (raw_app f u) = IsPlain f × IsPlain u
IsPlain r = Unit {0}

pub typed_elaborates : (S : ℕ → Scheme) (κ : ℕ → Ty) (C : List Ty) (r : Raw) → IsPlain r → (t : Term) (A : Ty) → Leaves t r → HasType S C t A → Elaborates S κ C r t A
typed_elaborates S κ C (raw_index i) p t A l h = (l, subst (λ s. HasType S C s A) l h)
typed_elaborates S κ C (raw_constant c) p t A l h = (l.0, l.1, subst (λ s. HasType S C s A) l.1 h)
typed_elaborates S κ C (raw_integer z) p t A l h = (l, subst (λ s. HasType S C s A) l h)
typed_elaborates S κ C (raw_text s) p t A l h = (l, subst (λ u. HasType S C u A) l h)
typed_elaborates S κ C (raw_abs None b) p t A l h =
    let k : HasType S C (abs l.0) A = subst (λ s. HasType S C s A) l.1 h in
    (l.0, l.1, k.0, k.1, k.2, tt, typed_elaborates S κ (k.0 ∷ C) b p l.0 k.1 l.2 k.3)
typed_elaborates S κ C (raw_abs (Some given) b) p t A l h = absurd p
typed_elaborates S κ C (raw_app f u) p t A l h =
    let k : HasType S C (app l.0 l.1) A = subst (λ s. HasType S C s A) l.2 h in
    (l.0, l.1, l.2, k.0, typed_elaborates S κ C f p.0 l.0 (arrow k.0 A) l.3 k.1, typed_elaborates S κ C u p.1 l.1 k.0 l.4 k.2)
