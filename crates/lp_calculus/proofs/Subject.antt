-- Steps keep types, and terms put for atoms keep types.
use Rattle.std.proofs.Common.{◌≡◌, ℕ, zero, suc, List, [], ◌∷◌, ◌∙◌, refl, sym, ap, subst as transport, arith, Bool, true, false, nat_eq, if◌then◌else◌, Option, Some}
use Rattle.std.specs.Prelude.{slice_get}
use Rattle.std.proofs.lemmas.Bool.Decides.{nat_tests}
use Rattle.lp_calculus.specs.Types.{Ty, arrow}
use Rattle.lp_calculus.specs.Term.{Term, index, atom, abs, app, Atom, shift, constant, integer, text, eigen, logic, param}
use Rattle.lp_calculus.specs.Convert.{here, in_abs, in_head, in_argument, by_beta, by_eta, ReducesTo, done, then_step}
use Rattle.lp_calculus.proofs.Sigma.{rename, lift, up, subst, instead}
use Rattle.lp_calculus.proofs.Plain.{substitute-subst}
use Rattle.lp_calculus.proofs.BetaEta.{shift_one}
use Rattle.lp_calculus.specs.Fill.{raise, fill, indexed, abstraction}
use Rattle.lp_calculus.proofs.Steps.{Step}
use Rattle.lp_calculus.specs.Typing.{HasType, IsMap}

abbrev Renames : List Ty → List Ty → (ℕ → ℕ) → Type 0
Renames C D ρ = (i : ℕ) (A : Ty) → slice_get C i ≡ Some A → slice_get D (ρ i) ≡ Some A

renames_lift : (C D : List Ty) (ρ : ℕ → ℕ) (B : Ty) → Renames C D ρ → Renames (B ∷ C) (B ∷ D) (lift ρ)
renames_lift C D ρ B h zero A e = e
renames_lift C D ρ B h (suc i) A e = h i A e

pub typed_rename : (τ : Atom → Option Ty) (C D : List Ty) (ρ : ℕ → ℕ) → Renames C D ρ → (t : Term) (T : Ty) → HasType τ C t T → HasType τ D (rename ρ t) T
typed_rename τ C D ρ h (index i) T w = h i T w
typed_rename τ C D ρ h (atom a) T w = w
typed_rename τ C D ρ h (abs b) T w = (w.0, w.1, w.2, typed_rename τ (w.0 ∷ C) (w.0 ∷ D) (lift ρ) (renames_lift C D ρ w.0 h) b w.1 w.3)
typed_rename τ C D ρ h (app t u) T w = (w.0, typed_rename τ C D ρ h t (arrow w.0 T) w.1, typed_rename τ C D ρ h u w.0 w.2)

abbrev Unrenames : List Ty → List Ty → (ℕ → ℕ) → Type 0
Unrenames C D ρ = (i : ℕ) (A : Ty) → slice_get D (ρ i) ≡ Some A → slice_get C i ≡ Some A

unrenames_lift : (C D : List Ty) (ρ : ℕ → ℕ) (B : Ty) → Unrenames C D ρ → Unrenames (B ∷ C) (B ∷ D) (lift ρ)
unrenames_lift C D ρ B h zero A e = e
unrenames_lift C D ρ B h (suc i) A e = h i A e

typed_unrename : (τ : Atom → Option Ty) (C D : List Ty) (ρ : ℕ → ℕ) → Unrenames C D ρ → (t : Term) (T : Ty) → HasType τ D (rename ρ t) T → HasType τ C t T
typed_unrename τ C D ρ h (index i) T w = h i T w
typed_unrename τ C D ρ h (atom a) T w = w
typed_unrename τ C D ρ h (abs b) T w = (w.0, w.1, w.2, typed_unrename τ (w.0 ∷ C) (w.0 ∷ D) (lift ρ) (unrenames_lift C D ρ w.0 h) b w.1 w.3)
typed_unrename τ C D ρ h (app t u) T w = (w.0, typed_unrename τ C D ρ h t (arrow w.0 T) w.1, typed_unrename τ C D ρ h u w.0 w.2)

pub typed_shift : (τ : Atom → Option Ty) (C : List Ty) (B : Ty) (t : Term) (T : Ty) → HasType τ C t T → HasType τ (B ∷ C) (shift 0 1 t) T
typed_shift τ C B t T w = transport (λ z. HasType τ (B ∷ C) z T) (sym (shift_one t)) (typed_rename τ C (B ∷ C) suc (λ i A e. e) t T w)

abbrev Substitutes : (Atom → Option Ty) → List Ty → List Ty → (ℕ → Term) → Type 0
Substitutes τ C D θ = (i : ℕ) (A : Ty) → slice_get C i ≡ Some A → HasType τ D (θ i) A

substitutes_up : (τ : Atom → Option Ty) (C D : List Ty) (θ : ℕ → Term) (B : Ty) → Substitutes τ C D θ → Substitutes τ (B ∷ C) (B ∷ D) (up θ)
substitutes_up τ C D θ B h zero A e = e
substitutes_up τ C D θ B h (suc i) A e = typed_rename τ D (B ∷ D) suc (λ j A e. e) (θ i) A (h i A e)

pub typed_subst : (τ : Atom → Option Ty) (C D : List Ty) (θ : ℕ → Term) → Substitutes τ C D θ → (t : Term) (T : Ty) → HasType τ C t T → HasType τ D (subst θ t) T
typed_subst τ C D θ h (index i) T w = h i T w
typed_subst τ C D θ h (atom a) T w = w
typed_subst τ C D θ h (abs b) T w = (w.0, w.1, w.2, typed_subst τ (w.0 ∷ C) (w.0 ∷ D) (up θ) (substitutes_up τ C D θ w.0 h) b w.1 w.3)
typed_subst τ C D θ h (app t u) T w = (w.0, typed_subst τ C D θ h t (arrow w.0 T) w.1, typed_subst τ C D θ h u w.0 w.2)

pub typed_instead : (τ : Atom → Option Ty) (C : List Ty) (u : Term) (A : Ty) → HasType τ C u A → Substitutes τ (A ∷ C) C (instead u)
typed_instead τ C u A w zero B e = let q : A ≡ B = cc in transport (HasType τ C u) q w
typed_instead τ C u A w (suc i) B e = e

pub typed_step : (τ : Atom → Option Ty) (C : List Ty) {t s : Term} → Step t s → (T : Ty) → HasType τ C t T → HasType τ C s T
typed_step τ C (here (by_beta b u)) T w =
    let p : w.0 ≡ w.1.0 = (let q = w.1.2 in cc) in
    let r : w.1.1 ≡ T = (let q = w.1.2 in cc) in
    let v : HasType τ C u w.1.0 = transport (HasType τ C u) p w.2 in
    transport (λ z. HasType τ C z T) (sym (substitute-subst u b)) (transport (HasType τ C (subst (instead u) b)) r (typed_subst τ (w.1.0 ∷ C) C (instead u) (typed_instead τ C u w.1.0 v) b w.1.1 w.1.3))
typed_step τ C (here (by_eta t)) T w =
    let p : w.0 ≡ w.3.0 = (let q = w.3.2 in cc) in
    let v : HasType τ (w.0 ∷ C) (rename suc t) (arrow w.3.0 w.1) = transport (λ z. HasType τ (w.0 ∷ C) z (arrow w.3.0 w.1)) (shift_one t) w.3.1 in
    let k : HasType τ C t (arrow w.3.0 w.1) = typed_unrename τ C (w.0 ∷ C) suc (λ i A e. e) t (arrow w.3.0 w.1) v in
    transport (HasType τ C t) (ap (λ z. arrow z w.1) (sym p) ∙ sym w.2) k
typed_step τ C (in_abs p) T w = (w.0, w.1, w.2, typed_step τ (w.0 ∷ C) p w.1 w.3)
typed_step τ C (in_head u p) T w = (w.0, typed_step τ C p (arrow w.0 T) w.1, w.2)
typed_step τ C (in_argument t p) T w = (w.0, w.1, typed_step τ C p w.0 w.2)

pub typed_reduces : (τ : Atom → Option Ty) (C : List Ty) {t s : Term} → ReducesTo t s → (T : Ty) → HasType τ C t T → HasType τ C s T
typed_reduces τ C (done t) T w = w
typed_reduces τ C (then_step p ps) T w = typed_reduces τ C ps T (typed_step τ C p T w)

-- terms put for atoms, each of the atom's type
pub typed_fill : (τ κ : Atom → Option Ty) (C : List Ty) (f : Atom → Term) → IsMap τ κ C f → (t : Term) (T : Ty) → HasType τ C t T → HasType κ C (fill f t) T
typed_fill τ κ C f h (index i) T w = w
typed_fill τ κ C f h (atom a) T w = h a T w
typed_fill τ κ C f h (abs b) T w = (w.0, w.1, w.2, typed_fill τ κ (w.0 ∷ C) (raise f) (λ a A e. typed_shift κ C w.0 (f a) A (h a A e)) b w.1 w.3)
typed_fill τ κ C f h (app t u) T w = (w.0, typed_fill τ κ C f h t (arrow w.0 T) w.1, typed_fill τ κ C f h u w.0 w.2)

if_typed : (τ : Atom → Option Ty) (c k : ℕ) (A B : Ty) → τ (eigen c) ≡ Some A → τ (eigen k) ≡ Some B → (b : Bool) → nat_eq k c ≡ b → HasType τ (A ∷ []) (if b then index 0 else atom (eigen k)) B
if_typed τ c k A B e h true i = let q : k ≡ c = grind (arith, nat_tests) in sym e ∙ ap (λ z. τ (eigen z)) (sym q) ∙ h
if_typed τ c k A B e h false i = h

indexed_typed : (τ : Atom → Option Ty) (c : ℕ) (A : Ty) → τ (eigen c) ≡ Some A → IsMap τ τ (A ∷ []) (indexed c)
indexed_typed τ c A e (eigen k) B h = if_typed τ c k A B e h (nat_eq k c) refl
indexed_typed τ c A e (logic x l) B h = h
indexed_typed τ c A e (constant k ts) B h = h
indexed_typed τ c A e (integer z) B h = h
indexed_typed τ c A e (text s) B h = h
indexed_typed τ c A e (param k t) B h = h

-- the same term with more indices in sight
pub more_typed : (τ : Atom → Option Ty) (C : List Ty) (t : Term) (T : Ty) (D : List Ty) → Renames C D (λ i. i) → HasType τ C t T → HasType τ D t T
more_typed τ C (index i) T D h w = h i T w
more_typed τ C (atom a) T D h w = w
more_typed τ C (abs b) T D h w = (w.0, w.1, w.2, more_typed τ (w.0 ∷ C) b w.1 (w.0 ∷ D) (under w.0) w.3)
  where
    under : (B : Ty) → Renames (B ∷ C) (B ∷ D) (λ i. i)
    under B zero A e = e
    under B (suc i) A e = h i A e
more_typed τ C (app t u) T D h w = (w.0, more_typed τ C t (arrow w.0 T) D h w.1, more_typed τ C u w.0 D h w.2)

pub typed_abstraction : (τ : Atom → Option Ty) (c : ℕ) (A : Ty) → τ (eigen c) ≡ Some A → (t : Term) (B : Ty) → HasType τ [] t B → HasType τ [] (abstraction c t) (arrow A B)
typed_abstraction τ c A e t B w = (A, B, refl, typed_fill τ τ (A ∷ []) (indexed c) (indexed_typed τ c A e) t B (more_typed τ [] t B (A ∷ []) (λ i D g. absurd (cc)) w))
