-- A node with what its parts have become.
use Rattle.std.specs.Prelude.{ℕ, map}
use Rattle.lp_calculus.specs.Types.{Ty, var, param, con, arrow, tys}
use Rattle.lp_calculus.specs.Term.{Term, constant, integer, text, eigen, logic, index, atom, abs, apply}
use Rattle.lp_calculus.specs.Term as term
use Rattle.lp_term.specs.Node.{TypeShape, var_node, param_node, con_node, arrow_node, TermShape, index_node, const_node, int_node, text_node, eigen_node, logic_node, typed_param_node, abs_node, app_node}
use Rattle.lp_term.specs.Nodes.{Nodes, tree, type_tree}
use Rattle.lp_term.specs.Mapped.{Told}
use Rattle.lp_term.specs.declared.becomes.TypeChange.{TypeChange}
use Rattle.lp_term.specs.declared.becomes.TermChange.{TermChange}
use Rattle.lp_term.specs.declared.walked.Node.{Node}
use Rattle.lp_term.specs.declared.changed.Changed.{Changed}
use Rattle.lp_term.specs.inner.Walking.{made_of, or_own}

-- the number that stands for a part
abbrev pub type_for : Changed → ℕ → ℕ
type_for c i = or_own (made_of c (Node.Type i)) i

abbrev pub term_for : Changed → ℕ → ℕ
term_for c i = or_own (made_of c (Node.Term i)) i

abbrev pub rebuilt_variable : Changed → Nodes → TypeChange → Ty
rebuilt_variable c d (TypeChange.Var y) = var y
rebuilt_variable c d (TypeChange.Is t) = type_tree d t.0
rebuilt_variable c d (TypeChange.As t) = type_tree d (type_for c t.0)

abbrev pub rebuilt_type : Told → Changed → Nodes → TypeShape → Ty
rebuilt_type f c d (var_node x) = rebuilt_variable c d (f.types x)
rebuilt_type f c d (param_node k) = param k
rebuilt_type f c d (con_node k ids) = con (f.kinds k) (tys (map (type_tree d) (map (type_for c) ids)))
rebuilt_type f c d (arrow_node a b) = arrow (type_tree d (type_for c a)) (type_tree d (type_for c b))

abbrev pub rebuilt_logic : Changed → Nodes → (x l : ℕ) → TermChange → Term
rebuilt_logic c d x l TermChange.Stays = atom (logic x l)
rebuilt_logic c d x l (TermChange.Is t) = tree d t.0
rebuilt_logic c d x l (TermChange.As t) = tree d (term_for c t.0)

abbrev pub rebuilt : Told → Changed → Nodes → TermShape → Term
rebuilt f c d (index_node i) = index i
rebuilt f c d (const_node k ids) = atom (constant (f.constants k) (map (type_tree d) (map (type_for c) ids)))
rebuilt f c d (int_node z) = atom (integer z)
rebuilt f c d (text_node s) = atom (text s)
rebuilt f c d (eigen_node k) = atom (eigen k)
rebuilt f c d (logic_node x l) = rebuilt_logic c d x l (f.terms x)
rebuilt f c d (typed_param_node k t) = atom (term.param k (type_tree d (type_for c t)))
rebuilt f c d (abs_node b) = abs (tree d (term_for c b))
rebuilt f c d (app_node h ids) = apply (tree d (term_for c h)) (map (tree d) (map (term_for c) ids))

-- nodes without parts, which no map changes
abbrev pub IsLeaf : TermShape → Type 0
IsLeaf (index_node i) = Unit {0}
IsLeaf (const_node k ids) = ⊥
IsLeaf (int_node z) = Unit {0}
IsLeaf (text_node s) = Unit {0}
IsLeaf (eigen_node k) = Unit {0}
IsLeaf (logic_node x l) = ⊥
IsLeaf (typed_param_node k t) = ⊥
IsLeaf (abs_node b) = ⊥
IsLeaf (app_node h ids) = ⊥
