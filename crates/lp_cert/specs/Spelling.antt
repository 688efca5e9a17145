-- The bytes of certificates: each has one spelling. Numbers stand with their lowest byte first.
use Rattle.std.specs.Prelude.{ℕ, List, [], ◌∷◌, ◌++◌, length}
use Rattle.std.specs.List.{flat_map}
use Rattle.lp_calculus.specs.Types.{Ty, Tys, var, param, con, arrow, no_types, types}
use Rattle.lp_calculus.specs.Term.{Term, Atom, index, atom, abs, app, constant, integer, text, eigen, logic}
use Rattle.lp_calculus.specs.Term as term
use Rattle.lp_bytes.specs.Numbers.{spelled_two, spelled_four, spelled_integer, spelled_long_text}
use Rattle.lp_cert.specs.Written.{Node, converted, trivial, pair, left_side, right_side, witness, general, assuming, equated, counted, back_to, focus_converted, focus_witness, side, premise, hit}
use Rattle.lp_cert.specs.Certified.{Certificate}

-- 0 and a type parameter; 1, a kind and its arguments; 2 and the two types of an arrow
abbrev mutual
  pub spelled_type : Ty → List ℕ
  spelled_type (var v) = 0 ∷ spelled_four v
  spelled_type (param v) = 0 ∷ spelled_four v
  spelled_type (con k ts) = 1 ∷ spelled_four k ++ spelled_types ts
  spelled_type (arrow a b) = 2 ∷ spelled_type a ++ spelled_type b

  pub spelled_types : Tys → List ℕ
  spelled_types no_types = []
  spelled_types (types t ts) = spelled_type t ++ spelled_types ts

-- 1, a constant and its types; 2 and an integer; 3 and a text; 4 and an eigenconstant; 5, a parameter and its type
abbrev pub spelled_atom : Atom → List ℕ
spelled_atom (constant c ts) = 1 ∷ spelled_four c ++ flat_map spelled_type ts
spelled_atom (integer z) = 2 ∷ spelled_integer z
spelled_atom (text s) = 3 ∷ spelled_long_text s
spelled_atom (eigen k) = 4 ∷ spelled_four k
spelled_atom (logic v level) = 4 ∷ spelled_four v
spelled_atom (term.param k t) = 5 ∷ spelled_four k ++ spelled_type t

-- 0 and an index; 6 and the body of an abstraction; 7, a head and its argument
abbrev pub spelled_term : Term → List ℕ
spelled_term (index i) = 0 ∷ spelled_four i
spelled_term (atom a) = spelled_atom a
spelled_term (abs t) = 6 ∷ spelled_term t
spelled_term (app t u) = 7 ∷ spelled_term t ++ spelled_term u

-- a node, each number of a proof before 16 and each of a focus from 16 on
abbrev pub spelled_node : Node → List ℕ
spelled_node (converted t) = 0 ∷ spelled_term t
spelled_node trivial = 1 ∷ []
spelled_node pair = 2 ∷ []
spelled_node left_side = 3 ∷ []
spelled_node right_side = 4 ∷ []
spelled_node (witness t) = 5 ∷ spelled_term t
spelled_node general = 6 ∷ []
spelled_node assuming = 7 ∷ []
spelled_node equated = 8 ∷ []
spelled_node counted = 9 ∷ []
spelled_node (back_to c ts) = 10 ∷ spelled_four c ++ (spelled_two (length ts) ++ flat_map spelled_type ts)
spelled_node (focus_converted t) = 16 ∷ spelled_term t
spelled_node (focus_witness t) = 17 ∷ spelled_term t
spelled_node (side s) = 18 ∷ s ∷ []
spelled_node premise = 19 ∷ []
spelled_node hit = 20 ∷ []

-- types and values behind their counts, and the nodes of the proof
unfoldable pub spelled_certificate : Certificate → List ℕ
spelled_certificate c =
    spelled_four (length c.instance.types) ++ (flat_map spelled_type c.instance.types ++ (spelled_four (length c.instance.values) ++ (flat_map spelled_term c.instance.values ++ flat_map spelled_node c.nodes)))

-- LPCT, version 1, and the certificates behind their count
unfoldable pub spelled_certificates : List Certificate → List ℕ
spelled_certificates cs = (76 ∷ 80 ∷ 67 ∷ 84 ∷ []) ++ (spelled_two 1 ++ (spelled_four (length cs) ++ flat_map spelled_certificate cs))
