-- Closed formulas: with more eigenconstants, under types for type variables, and the parts of a typed connective.
use Rattle.std.proofs.Common.{◌≡◌, ℕ, zero, suc, ◌≤◌, List, [], ◌∷◌, ◌++◌, map, length, Option, Some, refl, sym, ap, ◌∙◌, subst, arith, length-append}
use Rattle.std.specs.Prelude.{slice_get}
use Rattle.lp_calculus.specs.Types.{Ty, Tys, var, param as type_param, con, arrow, no_types, types, instance, instances}
use Rattle.lp_calculus.specs.Term.{Term, index, atom, abs, app, Atom, constant, integer, text, eigen, logic, param}
use Rattle.lp_calculus.specs.Typing.{HasType, Typed, atom_type, eigen_type, scheme_type, o_type}
use Rattle.lp_calculus.specs.Instance.{instance_atom, instance_term}
use Rattle.lp_calculus.specs.Closed.{AreClosed, IsClosedType, AreClosedTypes, IsClosedAtom, IsClosedAt}
use Rattle.lp_calculus.proofs.Fills.{fill_none, within_more}
use Rattle.lp_calculus.proofs.Commutations.{instance_fill}
use Rattle.lp_standard.specs.Connectives.{two}
use Rattle.lp_model.specs.Proofs.{Declared, under, IsFormula, IsWitness}
use Rattle.lp_proof_laws.proofs.Uniform.Contexts.{get_front}

-- types for type variables change no closed type and no closed term

mutual
  type_instance : (θ : ℕ → Ty) (T : Ty) → IsClosedType T → instance θ T ≡ T
  type_instance θ (var i) h = absurd h
  type_instance θ (type_param k) h = refl
  type_instance θ (con c ts) h = ap (con c) (types_instance θ ts h)
  type_instance θ (arrow a b) h = let e = type_instance θ a h.0 in let f = type_instance θ b h.1 in cc

  types_instance : (θ : ℕ → Ty) (ts : Tys) → AreClosedTypes ts → instances θ ts ≡ ts
  types_instance θ no_types h = refl
  types_instance θ (types t ts) h = let e = type_instance θ t h.0 in let f = types_instance θ ts h.1 in cc

list_instance : (θ : ℕ → Ty) (ts : List Ty) → AreClosed ts → map (instance θ) ts ≡ ts
list_instance θ [] h = refl
list_instance θ (t ∷ ts) h = let e = type_instance θ t h.0 in let f = list_instance θ ts h.1 in cc

atom_instance : (n : ℕ) (θ : ℕ → Ty) (a : Atom) → IsClosedAtom n a → atom (instance_atom θ a) ≡ atom a
atom_instance n θ (constant c ts) h = ap (λ us. atom (constant c us)) (list_instance θ ts h)
atom_instance n θ (integer z) h = refl
atom_instance n θ (text s) h = refl
atom_instance n θ (eigen k) h = refl
atom_instance n θ (logic x l) h = absurd h
atom_instance n θ (param k T) h = ap (λ U. atom (param k U)) (type_instance θ T h)

pub closed_instance : (n : ℕ) (θ : ℕ → Ty) (t : Term) → IsClosedAt n t → instance_term θ t ≡ t
closed_instance n θ t h = instance_fill θ t ∙ fill_none (IsClosedAtom n) (λ a. atom (instance_atom θ a)) (atom_instance n θ) 0 t h

-- with more types of atoms

pub typed_more : (τ κ : Atom → Option Ty) → ((a : Atom) (T : Ty) → τ a ≡ Some T → κ a ≡ Some T) → (C : List Ty) (t : Term) (T : Ty) → HasType τ C t T → HasType κ C t T
typed_more τ κ f C (index i) T h = h
typed_more τ κ f C (atom a) T h = f a T h
typed_more τ κ f C (abs b) T h = (h.0, h.1, h.2, typed_more τ κ f (h.0 ∷ C) b h.1 h.3)
typed_more τ κ f C (app t u) T h = (h.0, typed_more τ κ f C t (arrow h.0 T) h.1, typed_more τ κ f C u h.0 h.2)

eigen_more : (E F : List Ty) (k : ℕ) (T : Ty) → eigen_type E k ≡ Some T → eigen_type (E ++ F) k ≡ Some T
eigen_more E F zero T h = cc
eigen_more E F (suc k) T h = get_front E F k T h

pub atom_more : (d : Declared) (E F : List Ty) (a : Atom) (T : Ty) → atom_type (under d E) a ≡ Some T → atom_type (under d (E ++ F)) a ≡ Some T
atom_more d E F (constant c ts) T h = h
atom_more d E F (integer z) T h = h
atom_more d E F (text s) T h = h
atom_more d E F (eigen k) T h = eigen_more E F k T h
atom_more d E F (logic x l) T h = cc
atom_more d E F (param k U) T h = h

pub closed_atom_more : (n m : ℕ) → n ≤ m → (a : Atom) → IsClosedAtom n a → IsClosedAtom m a
closed_atom_more n m l (constant c ts) h = h
closed_atom_more n m l (integer z) h = h
closed_atom_more n m l (text s) h = h
closed_atom_more n m l (eigen k) h = omega (arith, h, l)
closed_atom_more n m l (logic x j) h = h
closed_atom_more n m l (param k T) h = h

longer : (E F : List Ty) → length E ≤ length (E ++ F)
longer E F = let e = length-append E F in omega arith

pub typed_eigens : (d : Declared) (E F : List Ty) (t : Term) (T : Ty) → Typed (under d E) [] t T → Typed (under d (E ++ F)) [] t T
typed_eigens d E F t T h = typed_more (atom_type (under d E)) (atom_type (under d (E ++ F))) (atom_more d E F) [] t T h

pub closed_eigens : (E F : List Ty) (t : Term) → IsClosedAt (length E) t → IsClosedAt (length (E ++ F)) t
closed_eigens E F t h = within_more (IsClosedAtom (length E)) (IsClosedAtom (length (E ++ F))) 0 0 (closed_atom_more (length E) (length (E ++ F)) (longer E F)) (omega arith) t h

pub formula_eigens : (d : Declared) (E F : List Ty) (t : Term) → IsFormula d E t → IsFormula d (E ++ F) t
formula_eigens d E F t h = record { typed = typed_eigens d E F t o_type h.typed; closed = closed_eigens E F t h.closed }

-- the new eigenconstant has its type
pub last_type : (E : List Ty) (T : Ty) → slice_get (E ++ T ∷ []) (length E) ≡ Some T
last_type [] T = refl
last_type (U ∷ E) T = last_type E T

-- the parts of a typed connective, where the standard constants have their types

two_types : (c : ℕ) (o : Option Ty) (X Y : Ty) → o ≡ Some (arrow o_type (arrow o_type o_type)) → o ≡ Some (arrow Y (arrow X o_type)) → (Y ≡ o_type) × (X ≡ o_type)
two_types c o X Y e f =
    let g : Some (arrow o_type (arrow o_type o_type)) ≡ Some (arrow Y (arrow X o_type)) = sym e ∙ f in
    let h : Y ≡ o_type = cc in
    let k : X ≡ o_type = cc in
    (h, k)

pub parts : (d : Declared) (E : List Ty) (c : ℕ) (A B : Term) → scheme_type [] (d c) ≡ Some (arrow o_type (arrow o_type o_type)) → IsFormula d E (two c [] A B) → IsFormula d E A × IsFormula d E B
parts d E c A B s h =
    let t = h.typed in
    let e = two_types c (scheme_type [] (d c)) t.0 t.1.0 s t.1.1 in
    (record { typed = subst (λ T. Typed (under d E) [] A T) e.0 t.1.2; closed = h.closed.0.1 }, record { typed = subst (λ T. Typed (under d E) [] B T) e.1 t.2; closed = h.closed.1 })

quantified_type : (o : Option Ty) (T X : Ty) → o ≡ Some (arrow (arrow T o_type) o_type) → o ≡ Some (arrow X o_type) → X ≡ arrow T o_type
quantified_type o T X e f = let g : Some (arrow (arrow T o_type) o_type) ≡ Some (arrow X o_type) = sym e ∙ f in cc

pub quantified : (d : Declared) (E : List Ty) (c : ℕ) (T : Ty) (s : Term) → scheme_type (T ∷ []) (d c) ≡ Some (arrow (arrow T o_type) o_type) → IsFormula d E (app (atom (constant c (T ∷ []))) s) → Typed (under d E) [] s (arrow T o_type) × IsClosedAt (length E) s
quantified d E c T s e h =
    let t = h.typed in
    (subst (λ U. Typed (under d E) [] s U) (quantified_type (scheme_type (T ∷ []) (d c)) T t.0 e t.1) t.2, h.closed.1)

-- the body of a `sigma` at a witness, and of a `pi` at the new eigenconstant
pub at_witness : (d : Declared) (E : List Ty) (T : Ty) (s t : Term) → Typed (under d E) [] s (arrow T o_type) × IsClosedAt (length E) s → IsWitness d E t T → IsFormula d E (app s t)
at_witness d E T s t h w = record { typed = (T, h.0, w.typed); closed = (h.1, w.closed) }

pub at_eigen : (d : Declared) (E : List Ty) (T : Ty) (s : Term) → Typed (under d E) [] s (arrow T o_type) × IsClosedAt (length E) s → IsFormula d (E ++ T ∷ []) (app s (atom (eigen (suc (length E)))))
at_eigen d E T s h = record {
  typed = (T, typed_eigens d E (T ∷ []) s (arrow T o_type) h.0, last_type E T);
  closed = (closed_eigens E (T ∷ []) s h.1, (let e = length-append E (T ∷ []) in omega arith));
}
