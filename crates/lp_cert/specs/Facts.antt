-- What is known of each type and each term of a bank.
use Rattle.std.specs.Prelude.{◌≡◌, ℕ, suc, ◌-◌, ◌<◌, ◌≤◌, max, List, [], ◌∷◌, length, get_or, All, Bool, true, false, ◌&&◌}
use Rattle.lp_calculus.specs.Types.{Ty, Tys, var, param as type_param, con, arrow, no_types, types}
use Rattle.lp_calculus.specs.Term.{Term, Atom, index, atom, abs, app, constant, integer, text, eigen, logic, param}
use Rattle.lp_standard.specs.Positive.{is_positive}
use Rattle.lp_term.specs.Nodes.{Nodes, tree, type_tree}
use Rattle.lp_term.specs.declared.node.TypeId.{TypeId}
use Rattle.lp_cert.specs.declared.known.Facts.{Facts}
use Rattle.lp_cert.specs.declared.known.Known.{Known}

-- the type has no type variable
abbrev mutual
  pub is_closed_type : Ty → Bool
  is_closed_type (var i) = false
  is_closed_type (type_param k) = true
  is_closed_type (con c ts) = are_closed_parts ts
  is_closed_type (arrow a b) = is_closed_type a && is_closed_type b

  pub are_closed_parts : Tys → Bool
  are_closed_parts no_types = true
  are_closed_parts (types t ts) = is_closed_type t && are_closed_parts ts

abbrev pub are_closed : List Ty → Bool
are_closed [] = true
are_closed (t ∷ ts) = is_closed_type t && are_closed ts

-- neither a logic variable nor a type variable
abbrev pub is_plain_atom : Atom → Bool
is_plain_atom (constant c ts) = are_closed ts
is_plain_atom (integer z) = true
is_plain_atom (text s) = true
is_plain_atom (eigen k) = true
is_plain_atom (logic x l) = false
is_plain_atom (param k t) = is_closed_type t

abbrev pub is_plain : Term → Bool
is_plain (index i) = true
is_plain (atom a) = is_plain_atom a
is_plain (abs b) = is_plain b
is_plain (app t u) = is_plain t && is_plain u

-- one more than the greatest loose index, or 0 where none is loose
abbrev pub loose : Term → ℕ
loose (index i) = suc i
loose (atom a) = 0
loose (abs b) = loose b - 1
loose (app t u) = max (loose t) (loose u)

-- the greatest eigenconstant, or 0 where there is none
abbrev pub eigen_of_atom : Atom → ℕ
eigen_of_atom (constant c ts) = 0
eigen_of_atom (integer z) = 0
eigen_of_atom (text s) = 0
eigen_of_atom (eigen k) = k
eigen_of_atom (logic x l) = 0
eigen_of_atom (param k t) = 0

abbrev pub greatest_eigen : Term → ℕ
greatest_eigen (index i) = 0
greatest_eigen (atom a) = eigen_of_atom a
greatest_eigen (abs b) = greatest_eigen b
greatest_eigen (app t u) = max (greatest_eigen t) (greatest_eigen u)

pub record AreFacts (f : Facts) (t : Term) : Type 0 where
  pub loose_is : f.loose ≡ loose t
  pub eigen_is : f.eigen ≡ greatest_eigen t
  pub plain_is : f.plain ≡ is_plain t
  pub positive_is : f.positive ≡ is_positive t

-- the facts of an atom without variables, but for what of it is not so
abbrev pub plain_facts : Bool → Facts
plain_facts p = record { loose = 0; eigen = 0; plain = p; positive = true }

abbrev pub atom_facts : Facts
atom_facts = plain_facts true

-- those of index 0, as which a number outside of a bank reads
abbrev pub no_facts : Facts
no_facts = record { loose = 1; eigen = 0; plain = true; positive = true }

-- all of these are marked; what has no mark is not
abbrev pub all_marked : List Bool → List ℕ → Bool
all_marked ms [] = true
all_marked ms (i ∷ is) = get_or ms i false && all_marked ms is

-- each of the first types and terms of the bank has what is known at its number
pub record IsKnown (b : Nodes) (k : Known) : Type 0 where
  pub few_types : length k.types.items ≤ length b.types
  pub few_terms : length k.terms.items ≤ length b.terms
  pub types : (i : ℕ) → i < length k.types.items → get_or k.types.items i false ≡ is_closed_type (type_tree b i)
  pub terms : (i : ℕ) → i < length k.terms.items → AreFacts (get_or k.terms.items i no_facts) (tree b i)

-- these types are among the first so many
abbrev pub AreInside : ℕ → List TypeId → Type 0
AreInside n ids = All (λ t. t.0 < n) ids
