-- Types without type variables: what a term names, and what is put for type variables.
use Rattle.std.proofs.Common.{◌≡◌, ℕ, zero, suc, ◌+◌, List, [], ◌∷◌, map, length, subst, Bool, true, false}
use Rattle.std.specs.Prelude.{if◌then◌else◌, nat_lt, nat_eq, Option, Some, None}
use Rattle.lp_calculus.specs.Types.{Ty, Tys, var, param as type_param, con, arrow, no_types, types, instance, instances}
use Rattle.lp_calculus.specs.Term.{Term, Atom, index, atom, abs, app, constant, integer, text, eigen, logic, param, replace, raised}
use Rattle.lp_calculus.specs.Closed.{IsClosedType, AreClosedTypes, AreClosed, IsClosedAtom, IsClosedAt, AllAtoms}
use Rattle.lp_calculus.specs.Fill.{Within}
use Rattle.lp_calculus.specs.Instance.{instance_atom, instance_term}
use Rattle.lp_calculus.specs.Typing.{Scheme, type_at, scheme_type}
use Rattle.lp_calculus.proofs.Atoms.{type_at_closed}
use Rattle.lp_type_laws.specs.Equations.{Below, AllBelow}
use Rattle.lp_model.specs.Index.{lifted, instantiate}
use Rattle.lp_cert.specs.inner.Named.{HasClosedTypes}

-- closed types for the type variables of a type
mutual
  pub closed_type : (θ : ℕ → Ty) → ((i : ℕ) → IsClosedType (θ i)) → (T : Ty) → IsClosedType (instance θ T)
  closed_type θ c (var i) = c i
  closed_type θ c (type_param k) = tt
  closed_type θ c (con n ts) = closed_parts θ c ts
  closed_type θ c (arrow a b) = (closed_type θ c a, closed_type θ c b)

  closed_parts : (θ : ℕ → Ty) → ((i : ℕ) → IsClosedType (θ i)) → (ts : Tys) → AreClosedTypes (instances θ ts)
  closed_parts θ c no_types = tt
  closed_parts θ c (types t ts) = (closed_type θ c t, closed_parts θ c ts)

closed_list : (θ : ℕ → Ty) → ((i : ℕ) → IsClosedType (θ i)) → (ts : List Ty) → AreClosed (map (instance θ) ts)
closed_list θ c [] = tt
closed_list θ c (t ∷ ts) = (closed_type θ c t, closed_list θ c ts)

-- the type of a constant at closed types
pub scheme_closed : (ts : List Ty) (o : Option Scheme) (T : Ty) → AreClosed ts → scheme_type ts o ≡ Some T → IsClosedType T
scheme_closed ts None T c e = absurd (cc)
scheme_closed ts (Some s) T c e = go (nat_eq (length ts) s.count) e
  where
    go : (b : Bool) → (if b then Some (instance (type_at ts) s.body) else None) ≡ Some T → IsClosedType T
    go true q = subst IsClosedType (let z : instance (type_at ts) s.body ≡ T = cc in z) (closed_type (type_at ts) (type_at_closed ts c) s.body)
    go false q = absurd (cc)

-- a closed type has no type variable at all
mutual
  pub closed_below : (n : ℕ) (T : Ty) → IsClosedType T → Below n T
  closed_below n (var i) h = absurd h
  closed_below n (type_param k) h = tt
  closed_below n (con c ts) h = closed_below_parts n ts h
  closed_below n (arrow a b) h = (closed_below n a h.0, closed_below n b h.1)

  closed_below_parts : (n : ℕ) (ts : Tys) → AreClosedTypes ts → AllBelow n ts
  closed_below_parts n no_types h = tt
  closed_below_parts n (types t ts) h = (closed_below n t h.0, closed_below_parts n ts h.1)

atom_has : (θ : ℕ → Ty) → ((i : ℕ) → IsClosedType (θ i)) → (a : Atom) → HasClosedTypes (instance_atom θ a)
atom_has θ c (constant n ts) = closed_list θ c ts
atom_has θ c (integer z) = tt
atom_has θ c (text s) = tt
atom_has θ c (eigen k) = tt
atom_has θ c (logic x l) = tt
atom_has θ c (param k T) = closed_type θ c T

term_has : (θ : ℕ → Ty) → ((i : ℕ) → IsClosedType (θ i)) → (t : Term) → AllAtoms HasClosedTypes (instance_term θ t)
term_has θ c (index i) = tt
term_has θ c (atom a) = atom_has θ c a
term_has θ c (abs b) = term_has θ c b
term_has θ c (app t u) = (term_has θ c t, term_has θ c u)

-- a formula with closed types for its type variables
pub instance_has : (ts : List Ty) (t : Term) → AreClosed ts → AllAtoms HasClosedTypes (instance_term (type_at ts) t)
instance_has ts t k = term_has (type_at ts) (type_at_closed ts k) t

piece : (b : Bool) (i j : ℕ) → AllAtoms HasClosedTypes (if b then index i else index j)
piece true i j = tt
piece false i j = tt

shifted_has : (n d : ℕ) (t : Term) → AllAtoms HasClosedTypes t → AllAtoms HasClosedTypes (replace (raised n) d t)
shifted_has n d (index i) h = piece (nat_lt i d) i (i + n)
shifted_has n d (atom a) h = h
shifted_has n d (abs b) h = shifted_has n (suc d) b h
shifted_has n d (app t u) h = (shifted_has n d t h.0, shifted_has n d u h.1)

lifted_has : (f : ℕ → Term) → ((i : ℕ) → AllAtoms HasClosedTypes (f i)) → (i : ℕ) → AllAtoms HasClosedTypes (lifted f i)
lifted_has f h zero = tt
lifted_has f h (suc i) = shifted_has 1 0 (f i) (h i)

-- with such terms for its indices
pub instantiate_has : (f : ℕ → Term) (t : Term) → ((i : ℕ) → AllAtoms HasClosedTypes (f i)) → AllAtoms HasClosedTypes t → AllAtoms HasClosedTypes (instantiate f t)
instantiate_has f (index i) k h = k i
instantiate_has f (atom a) k h = h
instantiate_has f (abs b) k h = instantiate_has (lifted f) b (lifted_has f k) h
instantiate_has f (app t u) k h = (instantiate_has f t k h.0, instantiate_has f u k h.1)

closed_atom_has : (n : ℕ) (a : Atom) → IsClosedAtom n a → HasClosedTypes a
closed_atom_has n (constant c ts) h = h
closed_atom_has n (integer z) h = tt
closed_atom_has n (text s) h = tt
closed_atom_has n (eigen k) h = tt
closed_atom_has n (logic x l) h = tt
closed_atom_has n (param k T) h = h

within_has : (n d : ℕ) (t : Term) → Within (IsClosedAtom n) d t → AllAtoms HasClosedTypes t
within_has n d (index i) h = tt
within_has n d (atom a) h = closed_atom_has n a h
within_has n d (abs b) h = within_has n (suc d) b h
within_has n d (app t u) h = (within_has n d t h.0, within_has n d u h.1)

pub closed_has : (n : ℕ) (t : Term) → IsClosedAt n t → AllAtoms HasClosedTypes t
closed_has n t h = within_has n 0 t h
