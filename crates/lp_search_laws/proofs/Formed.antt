-- What is typed over variables is a formula under a closing of them.
use Rattle.std.proofs.Common.{◌≡◌, ℕ, suc, List, [], ◌∷◌, ◌++◌, map, length, sym, subst as transport, Some}
use Rattle.lp_calculus.specs.Types.{Ty, Tys, var, param as type_param, con, arrow, no_types, types, instance, instances}
use Rattle.lp_calculus.specs.Term.{Term, Atom, index, atom, abs, app, constant, integer, text, eigen, logic, param}
use Rattle.lp_calculus.specs.Fill.{Within, at_variables}
use Rattle.lp_calculus.specs.Instance.{instance_atom, instance_term}
use Rattle.lp_calculus.specs.Typing.{HasType, Typed, atom_type, o_type}
use Rattle.lp_calculus.specs.Closed.{IsClosedType, AreClosedTypes, AreClosed, IsClosedAtom, IsClosedAt}
use Rattle.lp_calculus.proofs.Fills.{within_fill, within_both}
use Rattle.lp_model.specs.Pair.{Closing, closed}
use Rattle.lp_model.specs.Proofs.{Declared, under, IsFormula, IsWitness}
use Rattle.lp_model.specs.Answers.{Variable, IsScopedAtom, Closes}
use Rattle.lp_unify_laws.specs.Solutions.{IsTypedClosing, closed_variables}
use Rattle.lp_unify_laws.proofs.Scopes.{in_scope, variable_of, typed_fill_where}
use Rattle.lp_unify_laws.proofs.TypedBindings.{IsAtomOf, term_atoms}
use Rattle.lp_unify_laws.proofs.TypedInstances.{side_instance, scoped_instance}
use Rattle.lp_unify_laws.proofs.Trimmed.{closes_typed}
use Rattle.lp_proof_laws.proofs.Uniform.Formulas.{typed_eigens, closed_eigens}
use Rattle.lp_search_laws.specs.Holds.{IsTyped}

mutual
  pub type_closed : (θ : ℕ → Ty) → ((i : ℕ) → IsClosedType (θ i)) → (T : Ty) → IsClosedType (instance θ T)
  type_closed θ h (var i) = h i
  type_closed θ h (type_param k) = tt
  type_closed θ h (con c ts) = types_closed θ h ts
  type_closed θ h (arrow a b) = (type_closed θ h a, type_closed θ h b)

  types_closed : (θ : ℕ → Ty) → ((i : ℕ) → IsClosedType (θ i)) → (ts : Tys) → AreClosedTypes (instances θ ts)
  types_closed θ h no_types = tt
  types_closed θ h (types t ts) = (type_closed θ h t, types_closed θ h ts)

pub list_closed : (θ : ℕ → Ty) → ((i : ℕ) → IsClosedType (θ i)) → (ts : List Ty) → AreClosed (map (instance θ) ts)
list_closed θ h [] = tt
list_closed θ h (t ∷ ts) = (type_closed θ h t, list_closed θ h ts)

-- an atom's types are closed
abbrev HasClosedTypes : Atom → Type 0
HasClosedTypes (constant c ts) = AreClosed ts
HasClosedTypes (integer z) = Unit {0}
HasClosedTypes (text s) = Unit {0}
HasClosedTypes (eigen k) = Unit {0}
HasClosedTypes (logic x l) = Unit {0}
HasClosedTypes (param k T) = IsClosedType T

atom_types : (θ : ℕ → Ty) → ((i : ℕ) → IsClosedType (θ i)) → (a : Atom) → HasClosedTypes (instance_atom θ a)
atom_types θ h (constant c ts) = list_closed θ h ts
atom_types θ h (integer z) = tt
atom_types θ h (text s) = tt
atom_types θ h (eigen k) = tt
atom_types θ h (logic x l) = tt
atom_types θ h (param k T) = type_closed θ h T

term_types : (θ : ℕ → Ty) → ((i : ℕ) → IsClosedType (θ i)) → (P : Atom → Type 0) (n : ℕ) (t : Term) → Within P n t → Within HasClosedTypes n (instance_term θ t)
term_types θ h P n (index i) w = w
term_types θ h P n (atom a) w = atom_types θ h a
term_types θ h P n (abs b) w = term_types θ h P (suc n) b w
term_types θ h P n (app t u) w = (term_types θ h P n t w.0, term_types θ h P n u w.1)

-- a value in a wider scope
wider_value : (d : Declared) (S E : List Ty) → (r : List Ty) → E ≡ S ++ r → (t : Term) (T : Ty) → IsWitness d S t T → Typed (under d E) [] t T × IsClosedAt (length E) t
wider_value d S E r e t T w =
    transport (λ F. Typed (under d F) [] t T × IsClosedAt (length F) t) (sym e) (typed_eigens d S r t T w.typed, closed_eigens S r t w.closed)

module _ (d : Declared) (E : List Ty) (W : List Variable) (σ : ℕ → ℕ → Term) (g : IsTypedClosing d W σ) where
  atom_closed : (a : Atom) → IsAtomOf d E W a → (A : Ty) → in_scope d E W a ≡ Some A → HasType (atom_type (under d E)) [] (at_variables σ a) A
  atom_closed (logic x l) h A e =
      let v = variable_of W x l A e in
      let p = h.0 v.variable v.is in
      let w = wider_value d v.variable.scope E p.rest p.is _ _ (g x v.variable v.is) in
      transport (λ n. Typed (under d E) [] (σ x n) A) (sym v.level) (transport (Typed (under d E) [] (σ x (length v.variable.scope))) v.type w.0)
  atom_closed (constant c ts) h A e = e
  atom_closed (integer z) h A e = e
  atom_closed (text s) h A e = e
  atom_closed (eigen k) h A e = e
  atom_closed (param k T) h A e = e

  atom_level : (a : Atom) → IsAtomOf d E W a × HasClosedTypes a → Within (IsClosedAtom (length E)) 0 (at_variables σ a)
  atom_level (logic x l) h =
      let v = variable_of W x l h.0.1.0 h.0.1.1 in
      let p = h.0.0 v.variable v.is in
      let w = wider_value d v.variable.scope E p.rest p.is _ _ (g x v.variable v.is) in
      transport (λ n. IsClosedAt (length E) (σ x n)) (sym v.level) w.1
  atom_level (constant c ts) h = h.1
  atom_level (integer z) h = tt
  atom_level (text s) h = tt
  atom_level (eigen k) h = h.0.0
  atom_level (param k T) h = h.1

pub closed_typed : (d : Declared) (V : List Variable) (c : Closing) → Closes d V c → (E : List Ty) (t : Term) (T : Ty) → IsTyped d E V t T → Typed (under d (map (instance c.types) E)) [] (closed c t) (instance c.types T) × IsClosedAt (length (map (instance c.types) E)) (closed c t)
closed_typed d V c h E t T w = go
  where
    typed : HasType (in_scope d (map (instance c.types) E) (closed_variables c V)) [] (instance_term c.types t) (instance c.types T)
    typed = side_instance c.types d E V t T w.typed

    atoms : Within (IsAtomOf d (map (instance c.types) E) (closed_variables c V)) 0 (instance_term c.types t)
    atoms = term_atoms d (map (instance c.types) E) (closed_variables c V) (instance_term c.types t) (instance c.types T) (record { typed = typed; scoped = scoped_instance c.types E V 0 t w.scoped })

    both : Within (λ a. IsAtomOf d (map (instance c.types) E) (closed_variables c V) a × HasClosedTypes a) 0 (instance_term c.types t)
    both = within_both (IsAtomOf d (map (instance c.types) E) (closed_variables c V)) HasClosedTypes _ 0 (λ a p q. (p, q)) (instance_term c.types t) atoms (term_types c.types h.types (IsScopedAtom V E) 0 t w.scoped)

    g : IsTypedClosing d (closed_variables c V) c.terms
    g = closes_typed d V c h

    go : Typed (under d (map (instance c.types) E)) [] (closed c t) (instance c.types T) × IsClosedAt (length (map (instance c.types) E)) (closed c t)
    go = (
      typed_fill_where (IsAtomOf d (map (instance c.types) E) (closed_variables c V)) (in_scope d (map (instance c.types) E) (closed_variables c V)) (atom_type (under d (map (instance c.types) E))) [] (at_variables c.terms)
          (λ a p A e. atom_closed d (map (instance c.types) E) (closed_variables c V) c.terms g a p A e) 0 (instance_term c.types t) (instance c.types T) atoms typed,
      within_fill (λ a. IsAtomOf d (map (instance c.types) E) (closed_variables c V) a × HasClosedTypes a) (IsClosedAtom (length (map (instance c.types) E))) (at_variables c.terms) 0
          (λ a p. atom_level d (map (instance c.types) E) (closed_variables c V) c.terms g a p) (instance_term c.types t) both,
    )

pub formula_at : (d : Declared) (V : List Variable) (c : Closing) → Closes d V c → (E : List Ty) (t : Term) → IsTyped d E V t o_type → IsFormula d (map (instance c.types) E) (closed c t)
formula_at d V c h E t w = let r = closed_typed d V c h E t o_type w in record { typed = r.0; closed = r.1 }
