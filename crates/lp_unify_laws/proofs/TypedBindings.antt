-- Bindings whose values are typed keep the types and the scopes of terms.
use Rattle.std.proofs.Common.{◌≡◌, ℕ, ◌≤◌, List, [], ◌∷◌, ◌++◌, length, ◌∙◌, refl, sym, ap, subst as transport, arith, Bool, true, false, nat_eq, if◌then◌else◌, Option, Some}
use Rattle.std.specs.Prelude.{slice_get, ◌&&◌}
use Rattle.lp_calculus.specs.Types.{Ty, arrow}
use Rattle.lp_calculus.specs.Term.{Term, index, atom, abs, app, Atom, constant, integer, text, eigen, logic, param}
use Rattle.lp_calculus.specs.Convert.{ReducesTo}
use Rattle.lp_calculus.specs.Fill.{Within, Binding, at_variables, one, put, put_all}
use Rattle.lp_calculus.specs.Typing.{HasType}
use Rattle.lp_calculus.proofs.Fills.{within_more, within_fill, within_both}
use Rattle.lp_calculus.proofs.Steps.{within_reduces}
use Rattle.lp_calculus.proofs.Subject.{typed_reduces}
use Rattle.lp_model.specs.Proofs.{Declared}
use Rattle.lp_model.specs.Answers.{Variable, type_of, IsPrefix, IsScopedAtom}
use Rattle.lp_unify_laws.specs.Levels.{IsPairAtom}
use Rattle.lp_unify_laws.proofs.Sames.{both, same_number}
use Rattle.lp_unify_laws.proofs.Scopes.{got_before, IsMore, more_none, more_get, more_before, in_scope, typed_grows, typed_fill_where, variable_of, scope_grows, prefix_none, prefix_on, prefix_length}
pub use Rattle.lp_unify_laws.specs.Solutions.{AreTypedBindings}
use Rattle.lp_unify_laws.proofs.NewVariables.{IsTypedBinding}

-- a term of a type in a context, with variables whose scopes are within it
pub record IsTypedTerm (d : Declared) (E : List Ty) (V : List Variable) (t : Term) (T : Ty) : Type 0 where
  pub typed : HasType (in_scope d E V) [] t T
  pub scoped : Within (IsScopedAtom V E) 0 t

pub term_reduces : (d : Declared) (E : List Ty) (V : List Variable) (T : Ty) {t u : Term} → ReducesTo t u → IsTypedTerm d E V t T → IsTypedTerm d E V u T
term_reduces d E V T r h = record { typed = typed_reduces (in_scope d E V) [] r T h.typed; scoped = within_reduces (IsScopedAtom V E) 0 r h.scoped }

-- each atom of a typed term has a type
abbrev pub HasAtomType : (Atom → Option Ty) → Atom → Type 0
HasAtomType τ a = (A : Ty) × (τ a ≡ Some A)

pub typed_atoms : (τ : Atom → Option Ty) (C : List Ty) (t : Term) (T : Ty) → HasType τ C t T → Within (HasAtomType τ) (length C) t
typed_atoms τ C (index i) T w = got_before C i T w
typed_atoms τ C (atom a) T w = (T, w)
typed_atoms τ C (abs b) T w = typed_atoms τ (w.0 ∷ C) b w.1 w.3
typed_atoms τ C (app t u) T w = (typed_atoms τ C t (arrow w.0 T) w.1, typed_atoms τ C u w.0 w.2)

abbrev pub IsAtomOf : Declared → List Ty → List Variable → Atom → Type 0
IsAtomOf d E V a = IsScopedAtom V E a × HasAtomType (in_scope d E V) a

pub term_atoms : (d : Declared) (E : List Ty) (V : List Variable) (t : Term) (T : Ty) → IsTypedTerm d E V t T → Within (IsAtomOf d E V) 0 t
term_atoms d E V t T h = within_both (IsScopedAtom V E) (HasAtomType (in_scope d E V)) (IsAtomOf d E V) 0 (λ a p q. (p, q)) t h.scoped (typed_atoms (in_scope d E V) [] t T h.typed)

-- what may stand in a pair
atom_pair : (d : Declared) (E : List Ty) (V : List Variable) (a : Atom) → IsAtomOf d E V a → IsPairAtom (length V) (length E) a
atom_pair d E V (eigen k) h = h.0
atom_pair d E V (logic x l) h =
    let v = variable_of V x l h.1.0 h.1.1 in
    let p = prefix_length v.variable.scope E (h.0 v.variable v.is) in
    let q : l ≡ length v.variable.scope = v.level in
    let r : l ≤ length E = omega arith in
    (got_before V x v.variable v.is, r)
atom_pair d E V (constant c ts) h = tt
atom_pair d E V (integer z) h = tt
atom_pair d E V (text s) h = tt
atom_pair d E V (param k T) h = tt

pub term_pair : (d : Declared) (E : List Ty) (V : List Variable) (t : Term) (T : Ty) → IsTypedTerm d E V t T → Within (IsPairAtom (length V) (length E)) 0 t
term_pair d E V t T h = within_more (IsAtomOf d E V) (IsPairAtom (length V) (length E)) 0 0 (atom_pair d E V) (omega arith) t (term_atoms d E V t T h)

-- with more variables
scoped_more : (d : Declared) (E : List Ty) (V W : List Variable) → IsMore V W → (a : Atom) → IsAtomOf d E V a → IsScopedAtom W E a
scoped_more d E V W m (eigen k) h = h.0
scoped_more d E V W m (logic x l) h = λ w q.
    let v = variable_of V x l h.1.0 h.1.1 in
    let b = got_before V x v.variable v.is in
    h.0 w (more_before V W m x w b q)
scoped_more d E V W m (constant c ts) h = tt
scoped_more d E V W m (integer z) h = tt
scoped_more d E V W m (text s) h = tt
scoped_more d E V W m (param k T) h = tt

pub term_more : (d : Declared) (E : List Ty) (V W : List Variable) → IsMore V W → (t : Term) (T : Ty) → IsTypedTerm d E V t T → IsTypedTerm d E W t T
term_more d E V W m t T h = record {
  typed = typed_grows (in_scope d E V) (in_scope d E W) (scope_grows d E E V W (prefix_none E) m) [] t T h.typed;
  scoped = within_more (IsAtomOf d E V) (IsScopedAtom W E) 0 0 (scoped_more d E V W m) (omega arith) t (term_atoms d E V t T h);
}

pub binding_more : (d : Declared) (V W : List Variable) → IsMore V W → (b : Binding) → IsTypedBinding d V b → IsTypedBinding d W b
binding_more d V W m b h =
    let r = term_more d h.variable.scope V W m b.value h.variable.type (record { typed = h.typed; scoped = h.scoped }) in
    record { variable = h.variable; is = more_get V W m b.id h.variable h.is; level = h.level; typed = r.typed; scoped = r.scoped }

-- a wider scope
wider_atom : (V : List Variable) (S E : List Ty) → IsPrefix S E → (a : Atom) → IsScopedAtom V S a → IsScopedAtom V E a
wider_atom V S E p (eigen k) h = let q = prefix_length S E p in let i : k ≤ length S = h in let r : k ≤ length E = omega arith in r
wider_atom V S E p (logic x l) h = λ v e. prefix_on (h v e) p
wider_atom V S E p (constant c ts) h = tt
wider_atom V S E p (integer z) h = tt
wider_atom V S E p (text s) h = tt
wider_atom V S E p (param k T) h = tt

pub term_wider : (d : Declared) (S E : List Ty) (V : List Variable) → IsPrefix S E → (t : Term) (T : Ty) → IsTypedTerm d S V t T → IsTypedTerm d E V t T
term_wider d S E V p t T h = record {
  typed = typed_grows (in_scope d S V) (in_scope d E V) (scope_grows d S E V V p (more_none V)) [] t T h.typed;
  scoped = within_more (IsScopedAtom V S) (IsScopedAtom V E) 0 0 (wider_atom V S E p) (omega arith) t h.scoped;
}

-- a binding on a term
found : (d : Declared) (E : List Ty) (V : List Variable) (b : Binding) → IsTypedBinding d V b → (l x : ℕ) (A : Ty) → x ≡ b.id → l ≡ b.level → IsScopedAtom V E (logic x l) → type_of (slice_get V x) l ≡ Some A → IsTypedTerm d E V b.value A
found d E V b h l x A i j s e =
    let v = variable_of V x l A e in
    let o : slice_get V x ≡ Some h.variable = transport (λ z. slice_get V z ≡ Some h.variable) (sym i) h.is in
    let q : v.variable ≡ h.variable = (let z = sym v.is ∙ o in cc) in
    let t : h.variable.type ≡ A = ap (λ z. z.type) (sym q) ∙ v.type in
    transport (IsTypedTerm d E V b.value) t (term_wider d h.variable.scope E V (s h.variable o) b.value h.variable.type (record { typed = h.typed; scoped = h.scoped }))

if_typed : (d : Declared) (E : List Ty) (V : List Variable) (A : Ty) (c : Bool) (t u : Term) → (c ≡ true → IsTypedTerm d E V t A) → IsTypedTerm d E V u A → IsTypedTerm d E V (if c then t else u) A
if_typed d E V A true t u h k = h refl
if_typed d E V A false t u h k = k

one_typed : (d : Declared) (E : List Ty) (V : List Variable) (b : Binding) → IsTypedBinding d V b → (a : Atom) → IsScopedAtom V E a → (A : Ty) → in_scope d E V a ≡ Some A → IsTypedTerm d E V (at_variables (one b) a) A
one_typed d E V b h (logic x l) s A e = if_typed d E V A (nat_eq x b.id && nat_eq l b.level) b.value (atom (logic x l))
    (λ c. let r = both (nat_eq x b.id) (nat_eq l b.level) c in found d E V b h l x A (same_number x b.id r.0) (same_number l b.level r.1) s e) (record { typed = e; scoped = s })
one_typed d E V b h (eigen k) s A e = record { typed = e; scoped = s }
one_typed d E V b h (constant c ts) s A e = record { typed = e; scoped = s }
one_typed d E V b h (integer z) s A e = record { typed = e; scoped = s }
one_typed d E V b h (text r) s A e = record { typed = e; scoped = s }
one_typed d E V b h (param k T) s A e = record { typed = e; scoped = s }

pub put_typed : (d : Declared) (E : List Ty) (V : List Variable) (b : Binding) → IsTypedBinding d V b → (t : Term) (T : Ty) → IsTypedTerm d E V t T → IsTypedTerm d E V (put b t) T
put_typed d E V b h t T w = record {
  typed = typed_fill_where (IsScopedAtom V E) (in_scope d E V) (in_scope d E V) [] (at_variables (one b)) (λ a s A e. (one_typed d E V b h a s A e).typed) 0 t T w.scoped w.typed;
  scoped = within_fill (IsAtomOf d E V) (IsScopedAtom V E) (at_variables (one b)) 0 (λ a p. (one_typed d E V b h a p.0 p.1.0 p.1.1).scoped) t (term_atoms d E V t T w);
}

pub bindings_more : (d : Declared) (V W : List Variable) → IsMore V W → (bs : List Binding) → AreTypedBindings d V bs → AreTypedBindings d W bs
bindings_more d V W m [] h = tt
bindings_more d V W m (b ∷ bs) h = (binding_more d V W m b h.0, bindings_more d V W m bs h.1)

pub bindings_append : (d : Declared) (V : List Variable) (bs cs : List Binding) → AreTypedBindings d V bs → AreTypedBindings d V cs → AreTypedBindings d V (bs ++ cs)
bindings_append d V [] cs h k = k
bindings_append d V (b ∷ bs) cs h k = (h.0, bindings_append d V bs cs h.1 k)

pub put_all_typed : (d : Declared) (E : List Ty) (V : List Variable) (bs : List Binding) → AreTypedBindings d V bs → (t : Term) (T : Ty) → IsTypedTerm d E V t T → IsTypedTerm d E V (put_all bs t) T
put_all_typed d E V [] h t T w = w
put_all_typed d E V (b ∷ bs) h t T w = put_all_typed d E V bs h.1 (put b t) T (put_typed d E V b h.0 t T w)
