-- Positive closed terms: their atoms, and what reduction and the abstraction of eigenconstants keep of them.
use Rattle.std.proofs.Common.{ℕ, suc, List, [], ◌∷◌, length, arith}
use Rattle.lp_calculus.specs.Types.{Ty}
use Rattle.lp_calculus.specs.Term.{Term, index, atom, abs, app, apply, Atom, constant, integer, text, eigen, logic, param}
use Rattle.lp_calculus.specs.Convert.{ReducesTo}
use Rattle.lp_calculus.specs.Closed.{IsClosedType, AreClosed, IsClosedAtom, AllAtoms}
use Rattle.lp_standard.specs.Positive.{IsPositiveConstant, IsPositiveAtom}
use Rattle.lp_calculus.specs.Fill.{Within, abstracted}
use Rattle.lp_calculus.specs.Typing.{HasType, atom_type, eigen_type}
use Rattle.lp_calculus.proofs.Fills.{within_more, within_both}
use Rattle.lp_calculus.proofs.Steps.{within_reduces}
use Rattle.lp_model.specs.Patterns.{eigens}
use Rattle.lp_model.specs.Proofs.{Declared, under, IsWitness}
use Rattle.lp_unify_laws.specs.Levels.{IsLevelAtom}
use Rattle.lp_unify_laws.proofs.Abstractions.{Avoids, And, within_abstracted}
use Rattle.lp_unify_laws.proofs.Closings.{WithinAll, apply_within}
use Rattle.lp_unify_laws.proofs.Scopes.{in_scope, Grows, typed_grows, arrows, types_in, or_o}

-- types that are closed, and no constant of implication or cut
abbrev pub IsGroundAtom : Atom → Type 0
IsGroundAtom (constant c ts) = AreClosed ts × IsPositiveConstant c
IsGroundAtom (param k T) = IsClosedType T
IsGroundAtom (integer z) = Unit {0}
IsGroundAtom (text s) = Unit {0}
IsGroundAtom (eigen k) = Unit {0}
IsGroundAtom (logic x l) = Unit {0}

ground_of : (n : ℕ) (a : Atom) → IsClosedAtom n a → IsPositiveAtom a → IsGroundAtom a
ground_of n (constant c ts) p q = (p, q)
ground_of n (integer z) p q = tt
ground_of n (text s) p q = tt
ground_of n (eigen k) p q = tt
ground_of n (logic x l) p q = tt
ground_of n (param k T) p q = p

atoms_within : (n d : ℕ) (t : Term) → Within (IsClosedAtom n) d t → AllAtoms IsPositiveAtom t → Within IsGroundAtom d t
atoms_within n d (index i) p q = p
atoms_within n d (atom a) p q = ground_of n a p q
atoms_within n d (abs b) p q = atoms_within n (suc d) b p q
atoms_within n d (app t u) p q = (atoms_within n d t p.0 q.0, atoms_within n d u p.1 q.1)

pub witness_ground : (d : Declared) (E : List Ty) (t : Term) (T : Ty) → IsWitness d E t T → Within IsGroundAtom 0 t
witness_ground d E t T w = atoms_within (length E) 0 t w.closed w.positive

eigens_ground : (b : List ℕ) → WithinAll IsGroundAtom (eigens b)
eigens_ground [] = tt
eigens_ground (k ∷ b) = (tt, eigens_ground b)

pub ground_abstracted : (u : Term) (b cs : List ℕ) (w : Term) → Within IsGroundAtom 0 u → ReducesTo (apply u (eigens b)) w → Within IsGroundAtom 0 (abstracted cs w)
ground_abstracted u b cs w h r =
    within_more (And IsGroundAtom (Avoids cs)) IsGroundAtom 0 0 (λ a p. p.0) (omega arith) (abstracted cs w)
    (within_abstracted IsGroundAtom cs w (within_reduces IsGroundAtom 0 r (apply_within IsGroundAtom (eigens b) u h (eigens_ground b))))

closed_ground : (n : ℕ) (a : Atom) → IsLevelAtom n a → IsGroundAtom a → IsClosedAtom n a
closed_ground n (constant c ts) p q = q.0
closed_ground n (integer z) p q = tt
closed_ground n (text s) p q = tt
closed_ground n (eigen k) p q = p
closed_ground n (logic x l) p q = p
closed_ground n (param k T) p q = q

positive_ground : (a : Atom) → IsGroundAtom a → IsPositiveAtom a
positive_ground (constant c ts) q = q.1
positive_ground (integer z) q = tt
positive_ground (text s) q = tt
positive_ground (eigen k) q = tt
positive_ground (logic x l) q = tt
positive_ground (param k T) q = tt

all_positive : (d : ℕ) (t : Term) → Within IsGroundAtom d t → AllAtoms IsPositiveAtom t
all_positive d (index i) h = tt
all_positive d (atom a) h = positive_ground a h
all_positive d (abs b) h = all_positive (suc d) b h
all_positive d (app t u) h = (all_positive d t h.0, all_positive d u h.1)

-- a context without variables
under_scope : (d : Declared) (E : List Ty) → Grows (atom_type (under d E)) (in_scope d E [])
under_scope d E (constant c ts) A e = e
under_scope d E (integer z) A e = e
under_scope d E (text s) A e = e
under_scope d E (eigen k) A e = e
under_scope d E (logic x l) A e = absurd (cc)
under_scope d E (param k T) A e = e

scope_under : (d : Declared) (E : List Ty) → Grows (in_scope d E []) (atom_type (under d E))
scope_under d E (constant c ts) A e = e
scope_under d E (integer z) A e = e
scope_under d E (text s) A e = e
scope_under d E (eigen k) A e = e
scope_under d E (logic x l) A e = absurd (cc)
scope_under d E (param k T) A e = e

pub witness_typed : (d : Declared) (E : List Ty) (t : Term) (T : Ty) → IsWitness d E t T → HasType (in_scope d E []) [] t T
witness_typed d E t T w = typed_grows (atom_type (under d E)) (in_scope d E []) (under_scope d E) [] t T w.typed

pub witness_of : (d : Declared) (E : List Ty) (t : Term) (T : Ty) → HasType (in_scope d E []) [] t T → Within (IsLevelAtom (length E)) 0 t → Within IsGroundAtom 0 t → IsClosedType T → IsWitness d E t T
witness_of d E t T ty l g c = record {
  typed = typed_grows (in_scope d E []) (atom_type (under d E)) (scope_under d E) [] t T ty;
  closed = within_both (IsLevelAtom (length E)) IsGroundAtom (IsClosedAtom (length E)) 0 (closed_ground (length E)) t l g;
  positive = all_positive 0 t g;
  type_closed = c;
}

-- the types of eigenconstants
abbrev pub AreClosedIn : List Ty → List ℕ → Type 0
AreClosedIn F [] = Unit {0}
AreClosedIn F (k ∷ ks) = IsClosedType (or_o (eigen_type F k)) × AreClosedIn F ks

pub closed_arrows : (F : List Ty) (b : List ℕ) (T : Ty) → IsClosedType (arrows (types_in F b) T) → AreClosedIn F b × IsClosedType T
closed_arrows F [] T h = (tt, h)
closed_arrows F (k ∷ b) T h = let r = closed_arrows F b T h.1 in ((h.0, r.0), r.1)

pub arrows_closed : (F : List Ty) (b : List ℕ) (T : Ty) → AreClosedIn F b → IsClosedType T → IsClosedType (arrows (types_in F b) T)
arrows_closed F [] T h c = c
arrows_closed F (k ∷ b) T h c = (h.0, arrows_closed F b T h.1 c)
