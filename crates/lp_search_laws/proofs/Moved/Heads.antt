-- Heads with other eigenconstants and other levels are the same where they were, with the same types.
use Rattle.std.proofs.Common.{◌≡◌, refl}
use Rattle.std.specs.Prelude.{◌&&◌, nat_eq}
use Rattle.lp_calculus.specs.Term.{Term, index, atom, abs, app, Atom, constant, integer, text, eigen, logic, param}
use Rattle.lp_model.specs.Same.{same_atom, same_name}
use Rattle.lp_model.specs.Rule.{type_pairs}
use Rattle.lp_search_laws.proofs.Moved.Terms.{Moving, moved, moved_atom}

pub same_atom_moved : (m : Moving) (a b : Atom) → same_atom (moved_atom m a) (moved_atom m b) ≡ same_atom a b
same_atom_moved m (constant c ts) (constant d us) = refl
same_atom_moved m (constant c ts) (integer y) = refl
same_atom_moved m (constant c ts) (text r) = refl
same_atom_moved m (constant c ts) (eigen j) = refl
same_atom_moved m (constant c ts) (logic y k) = refl
same_atom_moved m (constant c ts) (param j U) = refl
same_atom_moved m (integer z) (constant d us) = refl
same_atom_moved m (integer z) (integer y) = refl
same_atom_moved m (integer z) (text r) = refl
same_atom_moved m (integer z) (eigen j) = refl
same_atom_moved m (integer z) (logic y k) = refl
same_atom_moved m (integer z) (param j U) = refl
same_atom_moved m (text s) (constant d us) = refl
same_atom_moved m (text s) (integer y) = refl
same_atom_moved m (text s) (text r) = refl
same_atom_moved m (text s) (eigen j) = refl
same_atom_moved m (text s) (logic y k) = refl
same_atom_moved m (text s) (param j U) = refl
same_atom_moved m (eigen i) (constant d us) = refl
same_atom_moved m (eigen i) (integer y) = refl
same_atom_moved m (eigen i) (text r) = refl
same_atom_moved m (eigen i) (eigen j) = m.same_eigens i j
same_atom_moved m (eigen i) (logic y k) = refl
same_atom_moved m (eigen i) (param j U) = refl
same_atom_moved m (logic x l) (constant d us) = refl
same_atom_moved m (logic x l) (integer y) = refl
same_atom_moved m (logic x l) (text r) = refl
same_atom_moved m (logic x l) (eigen j) = refl
same_atom_moved m (logic x l) (logic y k) = λ e. nat_eq x y && m.same_levels l k e
same_atom_moved m (logic x l) (param j U) = refl
same_atom_moved m (param i T) (constant d us) = refl
same_atom_moved m (param i T) (integer y) = refl
same_atom_moved m (param i T) (text r) = refl
same_atom_moved m (param i T) (eigen j) = refl
same_atom_moved m (param i T) (logic y k) = refl
same_atom_moved m (param i T) (param j U) = refl

pub name_moved : (m : Moving) (h g : Term) → same_name (moved m h) (moved m g) ≡ same_name h g
name_moved m (index i) (index j) = refl
name_moved m (index i) (atom b) = refl
name_moved m (index i) (abs s) = refl
name_moved m (index i) (app s v) = refl
name_moved m (atom a) (index j) = refl
name_moved m (atom a) (atom b) = same_atom_moved m a b
name_moved m (atom a) (abs s) = refl
name_moved m (atom a) (app s v) = refl
name_moved m (abs t) (index j) = refl
name_moved m (abs t) (atom b) = refl
name_moved m (abs t) (abs s) = refl
name_moved m (abs t) (app s v) = refl
name_moved m (app t u) (index j) = refl
name_moved m (app t u) (atom b) = refl
name_moved m (app t u) (abs s) = refl
name_moved m (app t u) (app s v) = refl

pub types_moved : (m : Moving) (h g : Term) → type_pairs (moved m h) (moved m g) ≡ type_pairs h g
types_moved m (index i) g = refl
types_moved m (abs b) g = refl
types_moved m (app t u) g = refl
types_moved m (atom (constant c ts)) (index q) = refl
types_moved m (atom (constant c ts)) (abs q) = refl
types_moved m (atom (constant c ts)) (app q v) = refl
types_moved m (atom (constant c ts)) (atom (constant d us)) = refl
types_moved m (atom (constant c ts)) (atom (integer y)) = refl
types_moved m (atom (constant c ts)) (atom (text r)) = refl
types_moved m (atom (constant c ts)) (atom (eigen j)) = refl
types_moved m (atom (constant c ts)) (atom (logic y k)) = refl
types_moved m (atom (constant c ts)) (atom (param j U)) = refl
types_moved m (atom (integer z)) g = refl
types_moved m (atom (text s)) g = refl
types_moved m (atom (eigen i)) g = refl
types_moved m (atom (logic x l)) g = refl
types_moved m (atom (param i T)) (index q) = refl
types_moved m (atom (param i T)) (abs q) = refl
types_moved m (atom (param i T)) (app q v) = refl
types_moved m (atom (param i T)) (atom (constant d us)) = refl
types_moved m (atom (param i T)) (atom (integer y)) = refl
types_moved m (atom (param i T)) (atom (text r)) = refl
types_moved m (atom (param i T)) (atom (eigen j)) = refl
types_moved m (atom (param i T)) (atom (logic y k)) = refl
types_moved m (atom (param i T)) (atom (param j U)) = refl
