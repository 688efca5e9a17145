-- Typed terms under a closing of their variables: they are typed, closed and, where they are positive, witnesses.
use Rattle.std.proofs.Common.{◌≡◌, ℕ, zero, suc, ◌<◌, ◌≤◌, List, [], ◌∷◌, ◌++◌, map, length, ◌∙◌, refl, sym, ap, subst as transport, arith, Bool, true, false, nat_eq, if◌then◌else◌, Option, Some, None}
use Rattle.std.specs.Prelude.{slice_get, option_map}
use mathlib.Core.Path.{fun_ext}
use Rattle.lp_calculus.specs.Types.{Ty, Tys, var, param as type_param, con, arrow, no_types, types, instance, instances}
use Rattle.lp_calculus.specs.Term.{Term, Atom, index, atom, abs, app, constant, integer, text, eigen, logic, param}
use Rattle.lp_calculus.specs.Fill.{Within, fill, raise, close, at_variables}
use Rattle.lp_calculus.specs.Convert.{Converts}
use Rattle.lp_calculus.specs.Instance.{instance_term, instance_atom, instance_context}
use Rattle.lp_calculus.specs.Typing.{HasType, Typed, atom_type, o_type}
use Rattle.lp_calculus.specs.Closed.{IsClosedType, AreClosedTypes, AreClosed, IsClosedAtom, IsClosedAt, AllAtoms}
use Rattle.lp_standard.specs.Positive.{IsPositive, IsPositiveAtom}
use Rattle.lp_calculus.proofs.Fills.{fill-fill, within_fill, within_more, shift_closed, subst_closed, fill_same}
use Rattle.lp_calculus.proofs.Commutations.{instance_fill, fill_shift}
use Rattle.lp_calculus.proofs.Steps.{converts_is, converts_abs, converts_app, converts_shift}
use Rattle.lp_calculus.proofs.Typings.{instance_typed}
use Rattle.lp_calculus.proofs.Subject.{more_typed}
use Rattle.lp_model.specs.Pair.{Closing, closed}
use Rattle.lp_model.specs.Index.{instantiate, lifted}
use Rattle.lp_model.specs.Proofs.{Declared, under, IsFormula, IsWitness}
use Rattle.lp_model.specs.Answers.{Variable, type_of, over, IsPrefix, IsScopedAtom, Closes}
use Rattle.lp_unify_laws.specs.Solutions.{instance_variable, closed_variables, IsTypedClosing}
use Rattle.lp_unify_laws.proofs.TypedInstances.{length_map, get_map, map_append, scoped_instance}
use Rattle.lp_unify_laws.proofs.Scopes.{in_scope, Grows, typed_grows, typed_fill_where, variable_of, prefix_length}
use Rattle.lp_unify_laws.proofs.TypedBindings.{HasAtomType, IsAtomOf, typed_atoms}
use Rattle.lp_unify_laws.proofs.Trimmed.{closes_typed}
use Rattle.lp_unify_laws.proofs.Witnesses.{IsGroundAtom, witness_ground}
use Rattle.lp_proof_laws.proofs.Uniform.Formulas.{typed_more, atom_more, closed_atom_more}
use Rattle.lp_proof_laws.proofs.Uniform.Openings.{instantiate_subst}
use Rattle.lp_search_laws.specs.Holds.{IsTyped}

-- types
mutual
  pub closed_type : (θ : ℕ → Ty) → ((i : ℕ) → IsClosedType (θ i)) → (T : Ty) → IsClosedType (instance θ T)
  closed_type θ h (var i) = h i
  closed_type θ h (type_param k) = tt
  closed_type θ h (con c ts) = closed_types θ h ts
  closed_type θ h (arrow a b) = (closed_type θ h a, closed_type θ h b)

  closed_types : (θ : ℕ → Ty) → ((i : ℕ) → IsClosedType (θ i)) → (ts : Tys) → AreClosedTypes (instances θ ts)
  closed_types θ h no_types = tt
  closed_types θ h (types t ts) = (closed_type θ h t, closed_types θ h ts)

pub all_closed : (θ : ℕ → Ty) → ((i : ℕ) → IsClosedType (θ i)) → (ts : List Ty) → AreClosed (map (instance θ) ts)
all_closed θ h [] = tt
all_closed θ h (t ∷ ts) = (closed_type θ h t, all_closed θ h ts)

-- types put into the types of atoms (as in lp_unify_laws TypedInstances)
if_some : (b : Bool) (f : Ty → Ty) (T : Ty) → option_map f (if b then Some T else None) ≡ (if b then Some (f T) else None)
if_some true f T = refl
if_some false f T = refl

type_instance : (θ : ℕ → Ty) (o : Option Variable) (l : ℕ) → type_of (option_map (instance_variable θ) o) l ≡ option_map (instance θ) (type_of o l)
type_instance θ None l = refl
type_instance θ (Some v) l = ap (λ n. if nat_eq l n then Some (instance θ v.type) else None) (length_map (instance θ) v.scope) ∙ sym (if_some (nat_eq l (length v.scope)) (instance θ) v.type)

context_grows : (θ : ℕ → Ty) (d : Declared) (E : List Ty) (V : List Variable) → Grows (atom_type (instance_context θ (over d E V))) (in_scope d (map (instance θ) E) (map (instance_variable θ) V))
context_grows θ d E V (logic x l) A e = ap (λ o. type_of o l) (get_map (instance_variable θ) V x) ∙ type_instance θ (slice_get V x) l ∙ e
context_grows θ d E V (constant c ts) A e = e
context_grows θ d E V (integer z) A e = e
context_grows θ d E V (text s) A e = e
context_grows θ d E V (eigen k) A e = e
context_grows θ d E V (param k T) A e = e

pub term_instance : (θ : ℕ → Ty) (d : Declared) (E : List Ty) (V : List Variable) (C : List Ty) (t : Term) (T : Ty) → Typed (over d E V) C t T → HasType (in_scope d (map (instance θ) E) (map (instance_variable θ) V)) (map (instance θ) C) (instance_term θ t) (instance θ T)
term_instance θ d E V C t T w =
    typed_grows (atom_type (instance_context θ (over d E V))) (in_scope d (map (instance θ) E) (map (instance_variable θ) V)) (context_grows θ d E V) (map (instance θ) C) (instance_term θ t) (instance θ T) (instance_typed θ (over d E V) C t T w)

-- a closing as one change of atoms
abbrev pub closed_atom : Closing → Atom → Term
closed_atom c a = at_variables c.terms (instance_atom c.types a)

pub closed_fill : (c : Closing) (t : Term) → closed c t ≡ fill (closed_atom c) t
closed_fill c t = ap (close c.terms) (instance_fill c.types t) ∙ fill-fill (at_variables c.terms) (λ a. atom (instance_atom c.types a)) (closed_atom c) (λ a. refl) t

-- what a closing gives is in scope, closed and ground
pub prefix_at : (θ : ℕ → Ty) (E F : List Ty) → IsPrefix E F → IsPrefix (map (instance θ) E) (map (instance θ) F)
prefix_at θ E F p = record { rest = map (instance θ) p.rest; is = ap (map (instance θ)) p.is ∙ map_append (instance θ) E p.rest }

typed_prefix : (d : Declared) (E F : List Ty) → IsPrefix E F → (t : Term) (T : Ty) → Typed (under d E) [] t T → Typed (under d F) [] t T
typed_prefix d E F p t T w = transport (λ z. Typed (under d z) [] t T) (sym p.is) (typed_more (atom_type (under d E)) (atom_type (under d (E ++ p.rest))) (atom_more d E p.rest) [] t T w)

closed_prefix : (E F : List Ty) → IsPrefix E F → (t : Term) → IsClosedAt (length E) t → IsClosedAt (length F) t
closed_prefix E F p t w = within_more (IsClosedAtom (length E)) (IsClosedAtom (length F)) 0 0 (closed_atom_more (length E) (length F) (prefix_length E F p)) (omega arith) t w

pub witness_prefix : (d : Declared) (E F : List Ty) → IsPrefix E F → (t : Term) (T : Ty) → IsWitness d E t T → IsWitness d F t T
witness_prefix d E F p t T w = record { typed = typed_prefix d E F p t T w.typed; closed = closed_prefix E F p t w.closed; positive = w.positive; type_closed = w.type_closed }

-- a variable that stands in a typed term
pub variable_given : (d : Declared) (E : List Ty) (V : List Variable) (c : Closing) → Closes d V c → (x l : ℕ) → IsAtomOf d E V (logic x l) → (A : Ty) → in_scope d E V (logic x l) ≡ Some A → IsWitness d (map (instance c.types) E) (c.terms x l) (instance c.types A)
variable_given d E V c h x l w A e =
    let v = variable_of V x l A e in
    let p = prefix_at c.types v.variable.scope E (w.0 v.variable v.is) in
    transport (λ n. IsWitness d (map (instance c.types) E) (c.terms x n) (instance c.types A)) (sym v.level)
    (transport (λ T. IsWitness d (map (instance c.types) E) (c.terms x (length v.variable.scope)) (instance c.types T)) v.type
    (witness_prefix d (map (instance c.types) v.variable.scope) (map (instance c.types) E) p (c.terms x (length v.variable.scope)) (instance c.types v.variable.type) (h.terms x v.variable v.is)))

closed_given : (d : Declared) (E : List Ty) (V : List Variable) (c : Closing) → Closes d V c → (a : Atom) → IsAtomOf d E V a → Within (IsClosedAtom (length (map (instance c.types) E))) 0 (closed_atom c a)
closed_given d E V c h (logic x l) w = (variable_given d E V c h x l w w.1.0 w.1.1).closed
closed_given d E V c h (constant k ts) w = all_closed c.types h.types ts
closed_given d E V c h (integer z) w = tt
closed_given d E V c h (text s) w = tt
closed_given d E V c h (eigen k) w = transport (λ n. k ≤ n) (sym (length_map (instance c.types) E)) w.0
closed_given d E V c h (param k T) w = closed_type c.types h.types T

-- terms with loose indices
pub atoms_of : (d : Declared) (E : List Ty) (V : List Variable) (C : List Ty) (t : Term) (T : Ty) → Typed (over d E V) C t T → Within (IsScopedAtom V E) (length C) t → Within (IsAtomOf d E V) (length C) t
atoms_of d E V C t T w s = go (length C) t s (typed_atoms (in_scope d E V) C t T w)
  where
    go : (n : ℕ) (t : Term) → Within (IsScopedAtom V E) n t → Within (HasAtomType (in_scope d E V)) n t → Within (IsAtomOf d E V) n t
    go n (index i) p q = p
    go n (atom a) p q = (p, q)
    go n (abs b) p q = go (suc n) b p q
    go n (app t u) p q = (go n t p.0 q.0, go n u p.1 q.1)

scoped_given : (d : Declared) (F : List Ty) (W : List Variable) (σ : ℕ → ℕ → Term) → IsTypedClosing d W σ → (C : List Ty) (a : Atom) → IsScopedAtom W F a → (A : Ty) → in_scope d F W a ≡ Some A → HasType (atom_type (under d F)) C (at_variables σ a) A
scoped_given d F W σ h C (logic x l) w A e =
    let v = variable_of W x l A e in
    let g = typed_prefix d v.variable.scope F (w v.variable v.is) (σ x (length v.variable.scope)) v.variable.type (h x v.variable v.is).typed in
    more_typed (atom_type (under d F)) [] (σ x l) A C (λ i B g. absurd (cc)) (transport (λ n. Typed (under d F) [] (σ x n) A) (sym v.level) (transport (λ T. Typed (under d F) [] (σ x (length v.variable.scope)) T) v.type g))
scoped_given d F W σ h C (constant k ts) w A e = e
scoped_given d F W σ h C (integer z) w A e = e
scoped_given d F W σ h C (text s) w A e = e
scoped_given d F W σ h C (eigen k) w A e = e
scoped_given d F W σ h C (param k T) w A e = e

pub closed_typed : (d : Declared) (E : List Ty) (V : List Variable) (c : Closing) → Closes d V c → (C : List Ty) (t : Term) (T : Ty) → Typed
    (over d E V) C t T → Within (IsScopedAtom V E) (length C) t → Typed (under d (map (instance c.types) E)) (map (instance c.types) C) (closed c t)
    (instance c.types T)
closed_typed d E V c h C t T w s =
    let F = map (instance c.types) E in
    let W = closed_variables c V in
    let D = map (instance c.types) C in
    typed_fill_where (IsScopedAtom W F) (in_scope d F W) (atom_type (under d F)) D (at_variables c.terms) (scoped_given d F W c.terms (closes_typed d V c h) D) (length C) (instance_term c.types t) (instance c.types T)
    (scoped_instance c.types E V (length C) t s) (term_instance c.types d E V C t T w)

pub closed_within : (d : Declared) (E : List Ty) (V : List Variable) (c : Closing) → Closes d V c → (n : ℕ) (t : Term) → Within (IsAtomOf d E V) n t → Within (IsClosedAtom (length (map (instance c.types) E))) n (closed c t)
closed_within d E V c h n t w =
    let F = map (instance c.types) E in
    transport (Within (IsClosedAtom (length F)) n) (sym (closed_fill c t))
    (within_fill (IsAtomOf d E V) (IsClosedAtom (length F)) (closed_atom c) n (λ a p. within_more (IsClosedAtom (length F)) (IsClosedAtom (length F)) 0 n (λ b q. q) (omega arith) (closed_atom c a) (closed_given d E V c h a p)) t w)

pub closed_formula : (d : Declared) (E : List Ty) (V : List Variable) (c : Closing) → Closes d V c → (t : Term) → IsTyped d E V t o_type → IsFormula d (map (instance c.types) E) (closed c t)
closed_formula d E V c h t w = record {
  typed = closed_typed d E V c h [] t o_type w.typed w.scoped;
  closed = closed_within d E V c h 0 t (atoms_of d E V [] t o_type w.typed w.scoped);
}

-- positive terms
ground_given : (d : Declared) (E : List Ty) (V : List Variable) (c : Closing) → Closes d V c → (a : Atom) → IsAtomOf d E V a → IsPositiveAtom a → Within IsGroundAtom 0 (closed_atom c a)
ground_given d E V c h (logic x l) w p = let A = w.1.0 in witness_ground d (map (instance c.types) E) (c.terms x l) (instance c.types A) (variable_given d E V c h x l w A w.1.1)
ground_given d E V c h (constant k ts) w p = (all_closed c.types h.types ts, p)
ground_given d E V c h (integer z) w p = tt
ground_given d E V c h (text s) w p = tt
ground_given d E V c h (eigen k) w p = tt
ground_given d E V c h (param k T) w p = closed_type c.types h.types T

pub with_all : (P Q : Atom → Type 0) (n : ℕ) (t : Term) → Within P n t → AllAtoms Q t → Within (λ a. P a × Q a) n t
with_all P Q n (index i) p q = p
with_all P Q n (atom a) p q = (p, q)
with_all P Q n (abs b) p q = with_all P Q (suc n) b p q
with_all P Q n (app t u) p q = (with_all P Q n t p.0 q.0, with_all P Q n u p.1 q.1)

positive_ground : (a : Atom) → IsGroundAtom a → IsPositiveAtom a
positive_ground (constant c ts) h = h.1
positive_ground (integer z) h = tt
positive_ground (text s) h = tt
positive_ground (eigen k) h = tt
positive_ground (logic x l) h = tt
positive_ground (param k T) h = tt

pub all_positive : (n : ℕ) (t : Term) → Within IsGroundAtom n t → IsPositive t
all_positive n (index i) h = tt
all_positive n (atom a) h = positive_ground a h
all_positive n (abs b) h = all_positive (suc n) b h
all_positive n (app t u) h = (all_positive n t h.0, all_positive n u h.1)

pub closed_positive : (d : Declared) (E : List Ty) (V : List Variable) (c : Closing) → Closes d V c → (t : Term) → Within (IsAtomOf d E V) 0 t → IsPositive t → IsPositive (closed c t)
closed_positive d E V c h t s p =
    all_positive 0 (closed c t) (transport (Within IsGroundAtom 0) (sym (closed_fill c t)) (within_fill (λ a. IsAtomOf d E V a × IsPositiveAtom a) IsGroundAtom (closed_atom c) 0 (λ a q. ground_given d E V c h a q.0 q.1) t (with_all (IsAtomOf d E V) IsPositiveAtom 0 t s p)))

pub closed_witness : (d : Declared) (E : List Ty) (V : List Variable) (c : Closing) → Closes d V c → (t : Term) (T : Ty) → IsTyped d E V t T → IsPositive t → IsWitness d (map (instance c.types) E) (closed c t) (instance c.types T)
closed_witness d E V c h t T w p =
    let F = map (instance c.types) E in
    let s = atoms_of d E V [] t T w.typed w.scoped in
    record {
      typed = closed_typed d E V c h [] t T w.typed w.scoped;
      closed = closed_within d E V c h 0 t s;
      positive = closed_positive d E V c h t s p;
      type_closed = closed_type c.types h.types T;
    }

-- terms put for indices, and a closing
shut_instantiate : (P : Atom → Type 0) (f : ℕ → Term) (t : Term) → Within P 0 t → instantiate f t ≡ t
shut_instantiate P f t w = instantiate_subst f t ∙ subst_closed P f 0 (λ i h. absurd (omega (arith, h))) t w

pub lifted_fill : (F : Atom → Term) (σ : ℕ → Term) (i : ℕ) → fill (raise F) (lifted σ i) ≡ lifted (λ j. fill F (σ j)) i
lifted_fill F σ zero = refl
lifted_fill F σ (suc i) = fill_shift F 0 1 (σ i)

pub fill_instantiate : (P Q : Atom → Type 0) (F : Atom → Term) (σ : ℕ → Term) (n : ℕ) (t : Term) → ((a : Atom) → P a → Within Q 0 (F a)) → Within P n t → fill F (instantiate σ t) ≡ instantiate (λ i. fill F (σ i)) (fill F t)
fill_instantiate P Q F σ n (index i) h w = refl
fill_instantiate P Q F σ n (atom a) h w = sym (shut_instantiate Q (λ i. fill F (σ i)) (F a) (h a w))
fill_instantiate P Q F σ n (abs b) h w =
    ap abs (fill_instantiate P Q (raise F) (lifted σ) (suc n) b (λ a p. transport (Within Q 0) (sym (shift_closed Q (F a) (h a p))) (h a p)) w ∙ ap (λ τ. instantiate τ (fill (raise F) b)) (fun_ext (lifted_fill F σ)))
fill_instantiate P Q F σ n (app t u) h w = λ i. app (fill_instantiate P Q F σ n t h w.0 i) (fill_instantiate P Q F σ n u h w.1 i)

pub closed_instantiate : (d : Declared) (E : List Ty) (V : List Variable) (c : Closing) → Closes d V c → (σ : ℕ → Term) (n : ℕ) (t : Term) → Within (IsAtomOf d E V) n t → closed c (instantiate σ t) ≡ instantiate (λ i. closed c (σ i)) (closed c t)
closed_instantiate d E V c h σ n t w =
    closed_fill c (instantiate σ t) ∙ fill_instantiate (IsAtomOf d E V) (IsClosedAtom (length (map (instance c.types) E))) (closed_atom c) σ n t (closed_given d E V c h) w ∙
    ap (instantiate (λ i. fill (closed_atom c) (σ i))) (sym (closed_fill c t)) ∙ ap (λ τ. instantiate τ (closed c t)) (fun_ext (λ i. sym (closed_fill c (σ i))))

-- closings that give the same to the variables of V
pub same_closed : (d : Declared) (E : List Ty) (V : List Variable) (c z : Closing) → z.types ≡ c.types → ((x : ℕ) (v : Variable) → slice_get V x ≡ Some v → z.terms x (length v.scope) ≡ c.terms x (length v.scope)) → (n : ℕ) (t : Term) → Within (IsAtomOf d E V) n t → closed z t ≡ closed c t
same_closed d E V c z e h n t w = closed_fill z t ∙ fill_same (IsAtomOf d E V) (closed_atom z) (closed_atom c) same_atom n t w ∙ sym (closed_fill c t)
  where
    same_atom : (a : Atom) → IsAtomOf d E V a → closed_atom z a ≡ closed_atom c a
    same_atom (logic x l) w = let v = variable_of V x l w.1.0 w.1.1 in transport (λ n. z.terms x n ≡ c.terms x n) (sym v.level) (h x v.variable v.is)
    same_atom (constant k ts) w = ap (λ θ. atom (constant k (map (instance θ) ts))) e
    same_atom (integer y) w = refl
    same_atom (text s) w = refl
    same_atom (eigen k) w = refl
    same_atom (param k T) w = ap (λ θ. atom (param k (instance θ T))) e

-- converting terms put for indices
lifted_converts : (n : ℕ) (f g : ℕ → Term) → ((i : ℕ) → i < n → Converts (f i) (g i)) → (i : ℕ) → i < suc n → Converts (lifted f i) (lifted g i)
lifted_converts n f g h zero l = converts_is refl
lifted_converts n f g h (suc i) l = converts_shift (h i (omega (arith, l)))

pub instantiate_converts : (P : Atom → Type 0) (n : ℕ) (f g : ℕ → Term) → ((i : ℕ) → i < n → Converts (f i) (g i)) → (t : Term) → Within P n t → Converts (instantiate f t) (instantiate g t)
instantiate_converts P n f g h (index i) w = h i w
instantiate_converts P n f g h (atom a) w = converts_is refl
instantiate_converts P n f g h (abs b) w = converts_abs (instantiate_converts P (suc n) (lifted f) (lifted g) (lifted_converts n f g h) b w)
instantiate_converts P n f g h (app t u) w = converts_app (instantiate_converts P n f g h t w.0) (instantiate_converts P n f g h u w.1)
