-- Formulas with loose indices, over the types of the indices, and what they become when closed terms are put for the indices.
use Rattle.std.proofs.Common.{◌≡◌, ℕ, zero, suc, ◌<◌, List, [], ◌∷◌, ◌++◌, length, Option, Some, refl, sym, ap, ◌∙◌, subst as transport, arith}
use Rattle.std.specs.Prelude.{slice_get}
use mathlib.Core.Path.{fun_ext}
use Rattle.lp_calculus.specs.Types.{Ty, arrow}
use Rattle.lp_calculus.specs.Term.{Term, index, atom, abs, app, shift, substitute, constant}
use Rattle.lp_calculus.specs.Convert.{Converts, same, forth, here, by_beta}
use Rattle.lp_calculus.specs.Typing.{Typed, atom_type, scheme_type, o_type}
use Rattle.lp_calculus.specs.Closed.{IsClosedAtom, IsClosedAt, IsClosedType}
use Rattle.lp_calculus.proofs.Sigma.{up, subst, instead, subst-subst, subst-rename, subst-index}
use Rattle.lp_calculus.proofs.Plain.{substitute-subst}
use Rattle.lp_calculus.proofs.BetaEta.{shift_one}
use Rattle.lp_calculus.proofs.Fills.{within_subst, within_more, within_shift}
use Rattle.lp_calculus.proofs.Subject.{typed_subst, typed_shift}
use Rattle.lp_calculus.proofs.Steps.{converts_is}
use Rattle.lp_model.specs.Index.{lifted, instantiate}
use Rattle.lp_standard.specs.Connectives.{two, body_of}
use Rattle.lp_model.specs.Proofs.{Declared, under, IsFormula}
pub use Rattle.lp_proof_laws.specs.Open.{IsOpen, Fits}
use Rattle.lp_proof_laws.proofs.Uniform.Formulas.{typed_more, atom_more, closed_atom_more, typed_eigens, closed_eigens}

-- one more term for an index
abbrev pub cons : Term → (ℕ → Term) → ℕ → Term
cons u θ zero = u
cons u θ (suc i) = θ i

pub lifted_up : (θ : ℕ → Term) (i : ℕ) → lifted θ i ≡ up θ i
lifted_up θ zero = refl
lifted_up θ (suc i) = shift_one (θ i)

pub instantiate_subst : (θ : ℕ → Term) (t : Term) → instantiate θ t ≡ subst θ t
instantiate_subst θ (index i) = refl
instantiate_subst θ (atom a) = refl
instantiate_subst θ (abs b) = ap abs (instantiate_subst (lifted θ) b ∙ ap (λ σ. subst σ b) (fun_ext (lifted_up θ)))
instantiate_subst θ (app t u) = let e = instantiate_subst θ t in let f = instantiate_subst θ u in cc

cons_at : (u : Term) (θ : ℕ → Term) (i : ℕ) → subst (instead u) (up θ i) ≡ cons u θ i
cons_at u θ zero = refl
cons_at u θ (suc i) = subst-rename suc (instead u) (θ i) ∙ subst-index (θ i)

pub open_lifted : (u : Term) (θ : ℕ → Term) (b : Term) → substitute u (instantiate (lifted θ) b) ≡ instantiate (cons u θ) b
open_lifted u θ b =
    substitute-subst u (instantiate (lifted θ) b) ∙ ap (subst (instead u)) (instantiate_subst (lifted θ) b ∙ ap (λ σ. subst σ b) (fun_ext (lifted_up θ))) ∙ subst-subst (up θ) (instead u) b ∙ ap (λ σ. subst σ b) (fun_ext (cons_at u θ)) ∙ sym (instantiate_subst (cons u θ) b)

pub past_shift : (u : Term) (θ : ℕ → Term) (t : Term) → instantiate (cons u θ) (shift 0 1 t) ≡ instantiate θ t
past_shift u θ t = instantiate_subst (cons u θ) (shift 0 1 t) ∙ ap (subst (cons u θ)) (shift_one t) ∙ subst-rename suc (cons u θ) t ∙ sym (instantiate_subst θ t)

-- the abstraction at u, and the body of a quantifier at u
pub abs_at : (u : Term) (θ : ℕ → Term) (b : Term) → Converts (app (instantiate θ (abs b)) u) (instantiate (cons u θ) b)
abs_at u θ b = forth (here (by_beta (instantiate (lifted θ) b) u)) (converts_is (open_lifted u θ b))

pub body_at : (s : Term) (θ : ℕ → Term) (u : Term) → Converts (app (instantiate θ s) u) (instantiate (cons u θ) (body_of s))
body_at (abs b) θ u = abs_at u θ b
body_at (index i) θ u = converts_is (ap (λ z. app z u) (sym (past_shift u θ (index i))))
body_at (atom a) θ u = same _
body_at (app t v) θ u = converts_is (ap (λ z. app z u) (sym (past_shift u θ (app t v))))

get_at : (Γ : List Ty) (i : ℕ) → i < length Γ → (T : Ty) × (slice_get Γ i ≡ Some T)
get_at [] i l = absurd (omega arith)
get_at (T ∷ Γ) zero l = (T, refl)
get_at (T ∷ Γ) (suc i) l = get_at Γ i (omega arith)

pub closed_open : (d : Declared) (E Γ : List Ty) (θ : ℕ → Term) (t : Term) (T : Ty) → Fits d E Γ θ → IsOpen d Γ t T → Typed (under d E) [] (instantiate θ t) T × IsClosedAt (length E) (instantiate θ t)
closed_open d E Γ θ t T f o =
    let e = instantiate_subst θ t in
    let typed = typed_subst (atom_type (under d E)) Γ [] θ (λ i A g. (f.at i A g).0) t T (typed_more (atom_type (under d [])) (atom_type (under d E)) (atom_more d [] E) Γ t T o.typed) in
    let inside = within_more (IsClosedAtom 0) (IsClosedAtom (length E)) (length Γ) (length Γ) (closed_atom_more 0 (length E) (omega arith)) (omega arith) t o.within in
    let within = within_subst (IsClosedAtom (length E)) θ (length Γ) 0 (λ i l. let g = get_at Γ i l in (f.at i g.0 g.1).1) t inside in
    (transport (λ z. Typed (under d E) [] z T) (sym e) typed, transport (IsClosedAt (length E)) (sym e) within)

pub open_formula : (d : Declared) (E Γ : List Ty) (θ : ℕ → Term) (t : Term) → Fits d E Γ θ → IsOpen d Γ t o_type → IsFormula d E (instantiate θ t)
open_formula d E Γ θ t f o = let c = closed_open d E Γ θ t o_type f o in record { typed = c.0; closed = c.1 }

pub fits_cons : (d : Declared) (E Γ : List Ty) (θ : ℕ → Term) (u : Term) (T : Ty) → Fits d E Γ θ → Typed (under d E) [] u T × IsClosedAt (length E) u → Fits d E (T ∷ Γ) (cons u θ)
fits_cons d E Γ θ u T f w = record { at = go }
  where
    go : (i : ℕ) (U : Ty) → slice_get (T ∷ Γ) i ≡ Some U → Typed (under d E) [] (cons u θ i) U × IsClosedAt (length E) (cons u θ i)
    go zero U e = let g : T ≡ U = cc in (transport (Typed (under d E) [] u) g w.0, w.1)
    go (suc i) U e = f.at i U e

pub fits_more : (d : Declared) (E F Γ : List Ty) (θ : ℕ → Term) → Fits d E Γ θ → Fits d (E ++ F) Γ θ
fits_more d E F Γ θ f = record { at = λ i T e. let w = f.at i T e in (typed_eigens d E F (θ i) T w.0, closed_eigens E F (θ i) w.1) }

-- the parts of connectives over indices, and connectives of such parts

two_is : (o : Option Ty) (X Y : Ty) → o ≡ Some (arrow o_type (arrow o_type o_type)) → o ≡ Some (arrow Y (arrow X o_type)) → (Y ≡ o_type) × (X ≡ o_type)
two_is o X Y e f =
    let g : Some (arrow o_type (arrow o_type o_type)) ≡ Some (arrow Y (arrow X o_type)) = sym e ∙ f in
    let h : Y ≡ o_type = cc in
    let k : X ≡ o_type = cc in
    (h, k)

pub open_parts : (d : Declared) (Γ : List Ty) (c : ℕ) (A B : Term) → scheme_type [] (d c) ≡ Some (arrow o_type (arrow o_type o_type)) → IsOpen d Γ (two c [] A B) o_type → IsOpen d Γ A o_type × IsOpen d Γ B o_type
open_parts d Γ c A B s h =
    let t = h.typed in
    let e = two_is (scheme_type [] (d c)) t.0 t.1.0 s t.1.1 in
    (record { typed = transport (Typed (under d []) Γ A) e.0 t.1.2; within = h.within.0.1 }, record { typed = transport (Typed (under d []) Γ B) e.1 t.2; within = h.within.1 })

pub open_two : (d : Declared) (Γ : List Ty) (c : ℕ) (A B : Term) → scheme_type [] (d c) ≡ Some (arrow o_type (arrow o_type o_type)) → IsOpen d Γ A o_type → IsOpen d Γ B o_type → IsOpen d Γ (two c [] A B) o_type
open_two d Γ c A B s a b = record { typed = (o_type, (o_type, s, a.typed), b.typed); within = ((tt, a.within), b.within) }

quantifier_is : (o : Option Ty) (T X : Ty) → o ≡ Some (arrow (arrow T o_type) o_type) → o ≡ Some (arrow X o_type) → X ≡ arrow T o_type
quantifier_is o T X e f = let g : Some (arrow (arrow T o_type) o_type) ≡ Some (arrow X o_type) = sym e ∙ f in cc

pub open_function : (d : Declared) (Γ : List Ty) (c : ℕ) (T : Ty) (s : Term) → scheme_type (T ∷ []) (d c) ≡ Some (arrow (arrow T o_type) o_type) → IsOpen d Γ (app (atom (constant c (T ∷ []))) s) o_type → IsOpen d Γ s (arrow T o_type)
open_function d Γ c T s e h = record { typed = transport (Typed (under d []) Γ s) (quantifier_is (scheme_type (T ∷ []) (d c)) T h.typed.0 e h.typed.1) h.typed.2; within = h.within.1 }

shifted : (d : Declared) (Γ : List Ty) (T : Ty) (s : Term) → IsOpen d Γ s (arrow T o_type) → IsOpen d (T ∷ Γ) (app (shift 0 1 s) (index 0)) o_type
shifted d Γ T s h = record {
  typed = (T, typed_shift (atom_type (under d [])) Γ T s (arrow T o_type) h.typed, refl);
  within = (within_shift (IsClosedAtom 0) (length Γ) s h.within, omega arith);
}

pub open_body : (d : Declared) (Γ : List Ty) (T : Ty) (s : Term) → IsOpen d Γ s (arrow T o_type) → IsOpen d (T ∷ Γ) (body_of s) o_type
open_body d Γ T (abs b) h =
    let e : T ≡ h.typed.0 = (let g = h.typed.2 in cc) in
    let f : o_type ≡ h.typed.1 = (let g = h.typed.2 in cc) in
    record { typed = transport (λ A. Typed (under d []) (A ∷ Γ) b o_type) (sym e) (transport (Typed (under d []) (h.typed.0 ∷ Γ) b) (sym f) h.typed.3); within = h.within }
open_body d Γ T (index i) h = shifted d Γ T (index i) h
open_body d Γ T (atom a) h = shifted d Γ T (atom a) h
open_body d Γ T (app t u) h = shifted d Γ T (app t u) h

pub open_quantified : (d : Declared) (Γ : List Ty) (c : ℕ) (T : Ty) (b : Term) → scheme_type (T ∷ []) (d c) ≡ Some (arrow (arrow T o_type) o_type) → IsClosedType T → IsOpen d (T ∷ Γ) b o_type → IsOpen d Γ (app (atom (constant c (T ∷ []))) (abs b)) o_type
open_quantified d Γ c T b e k h = record { typed = (arrow T o_type, e, (T, o_type, refl, h.typed)); within = ((k, tt), h.within) }
