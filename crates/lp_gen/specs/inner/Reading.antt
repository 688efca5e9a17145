-- The types that the generator reads.
use Rattle.std.specs.Prelude.{List, [], map, Option, Some, None}
use Rattle.lp_calculus.specs.Types.{Ty, var, param as type_param, con, arrow, tys, instance}
use Rattle.lp_calculus.specs.Term.{Term, Atom, index, atom, abs, app, constant, integer, text, eigen, logic, param}
use Rattle.lp_calculus.specs.Typing.{o_type, type_at}
use Rattle.lp_term.specs.Nodes.{Nodes, tree, type_tree}
use Rattle.lp_term.specs.declared.node.TermId.{TermId}
use Rattle.lp_term.specs.declared.node.TypeId.{TypeId}
use Rattle.lp_gen.specs.declared.types.TypeView.{TypeView}
use Rattle.lp_gen.specs.declared.types.TypeView.TheVariants.{Proposition, Predicate, Of}
use Rattle.lp_gen.specs.declared.types.Top.{Top}
use Rattle.lp_gen.specs.declared.types.Top.TheVariants.{Variable, Parameter, Constructor, Arrow}

-- the types of a constant, for its type variables
abbrev pub types_of_atom : Atom → List Ty
types_of_atom (constant c ts) = ts
types_of_atom (integer z) = []
types_of_atom (text s) = []
types_of_atom (eigen k) = []
types_of_atom (logic x l) = []
types_of_atom (param k T) = []

abbrev pub types_of : Term → List Ty
types_of (index i) = []
types_of (atom a) = types_of_atom a
types_of (abs b) = []
types_of (app t u) = []

-- its type variables stand for themselves, or for the types of a constant
abbrev pub read_at : Nodes → Option TermId → Ty → Ty
read_at b None T = T
read_at b (Some c) T = instance (type_at (types_of (tree b c.0))) T

-- a type argument; where there is none, `o`
abbrev pub read_argument : Nodes → Option TypeId → Ty
read_argument b None = o_type
read_argument b (Some t) = type_tree b t.0

abbrev pub read : Nodes → TypeView → Ty
read b Proposition = o_type
read b (Predicate t) = arrow (type_tree b t.0) o_type
read b (Of t at) = read_at b at (type_tree b t.0)

abbrev pub read_top : Nodes → Top → Ty
read_top b (Variable n) = var n
read_top b (Parameter k) = type_param k
read_top b (Constructor k parts at) = con k (tys (map (λ p. read_at b at (type_tree b p.0)) parts.now))
read_top b (Arrow from to) = arrow (read b from) (read b to)
