-- Whether two heads are the same but for their types.
use Rattle.std.specs.Prelude.{ℕ, nat_eq, Bool, true, false, ◌&&◌, List, [], ◌∷◌, length}
use Rattle.std.specs.Ordering.{int_eq}
use Rattle.lp_calculus.specs.Term.{Term, index, atom, Atom, constant, integer, text, eigen, logic, param}

abbrev pub same_numbers : List ℕ → List ℕ → Bool
same_numbers [] [] = true
same_numbers (i ∷ is) (j ∷ js) = nat_eq i j && same_numbers is js
same_numbers _ _ = false

abbrev pub same_atom : Atom → Atom → Bool
same_atom (constant c ts) (constant d us) = nat_eq c d && nat_eq (length ts) (length us)
same_atom (integer i) (integer j) = int_eq i j
same_atom (text s) (text r) = same_numbers s r
same_atom (eigen i) (eigen j) = nat_eq i j
same_atom (logic x l) (logic y m) = nat_eq x y && nat_eq l m
same_atom (param i t) (param j u) = nat_eq i j
same_atom _ _ = false

abbrev pub same_name : Term → Term → Bool
same_name (index i) (index j) = nat_eq i j
same_name (atom a) (atom b) = same_atom a b
same_name _ _ = false
