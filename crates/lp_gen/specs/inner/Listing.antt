-- The steps of a term as the code has them, and what stands around it.
use Rattle.std.specs.Prelude.{ℕ, nat_eq, List, [], ◌∷◌, map, option_map}
use Rattle.indexmap.specs.IndexMap.{get}
use Rattle.lp_calculus.specs.Types.{Ty, arrow}
use Rattle.lp_calculus.specs.Term.{Term, index, atom, abs, app}
use Rattle.lp_calculus.specs.Typing.{o_type}
use Rattle.lp_model.specs.declared.program.Declared.{Declared}
use Rattle.lp_term.specs.Nodes.{Nodes, type_tree}
use Rattle.lp_term.specs.declared.node.TermNode.{TermNode}
use Rattle.lp_term.specs.declared.node.TermNode.TheVariants as node
use Rattle.lp_gen.specs.declared.environment.Variable.{Variable}
use Rattle.lp_gen.specs.declared.environment.Environment.{Environment}
use Rattle.lp_gen.specs.declared.standard.Function.{Function}
use Rattle.lp_gen.specs.declared.standard.Function.TheVariants.{Of, One, Two}
use Rattle.lp_gen.specs.declared.term_steps.TermStep.{TermStep}
use Rattle.lp_gen.specs.declared.term_steps.TermStep.TheVariants as on
use Rattle.lp_gen.specs.Steps.{Step, make_constant, make_integer, make_text, make_index, make_variable, from_register, apply_last, abstract_last, Seen, Around, from_of, Listed, one_step, index_listed, atom_function, declared_function, declared_type, Headed, with_argument, listed}
use Rattle.lp_gen.specs.inner.Reading.{read, types_of}

abbrev pub plain_step : Nodes → TermStep → Step
plain_step b (on.Constant c ids) = make_constant c (map (λ t. type_tree b t.0) ids.now)
plain_step b (on.Integer z) = make_integer z
plain_step b (on.Text s) = make_text s.now
plain_step b (on.Index i T) = make_index i (read b T)
plain_step b (on.New r T) = make_variable r (type_tree b T.0)
plain_step b (on.Register r) = from_register r
plain_step b (on.Apply n) = apply_last n
plain_step b (on.Abstract T) = abstract_last (read b T)

abbrev pub seen : Nodes → Variable → Seen
seen b v = record { register = v.register; of = type_tree b v.of.0; is_set = v.is_set }

abbrev pub around_of : Nodes → Environment → Around
around_of b e = record { own = map (seen b) e.own.items; base = e.base; captured = λ l. option_map (seen b) (get nat_eq e.captured.now l) }

-- the same by a node: one that is neither an index nor has steps of its own counts as index 0
abbrev pub node_listed : Nodes → List Ty → Around → TermNode → Listed
node_listed b C a (node.Index i) = index_listed C a i
node_listed b C a (node.Const c ids) = one_step a (make_constant c (map (λ t. type_tree b t.0) ids.now))
node_listed b C a (node.Int z) = one_step a (make_integer z)
node_listed b C a (node.Text s) = one_step a (make_text s.now)
node_listed b C a (node.Eigen k) = index_listed C a 0
node_listed b C a (node.Logic x l) = index_listed C a 0
node_listed b C a (node.Param k t) = index_listed C a 0
node_listed b C a (node.Abs body) = index_listed C a 0
node_listed b C a (node.App f ids) = index_listed C a 0

abbrev pub term_function : (constants : ℕ → List Ty → Ty) → Term → Ty
term_function K (index i) = o_type
term_function K (atom s) = atom_function K s
term_function K (abs b) = o_type
term_function K (app t u) = o_type

-- the same for a constant that is told by its node
abbrev pub declared_at : Nodes → List Declared → (place : ℕ) → Term → Ty
declared_at b ds n t = declared_function (types_of t) (declared_type b ds n)

abbrev pub read_function : Nodes → Function → Ty
read_function b (Of V) = read b V
read_function b (One V W) = arrow (read b V) (read b W)
read_function b (Two U V W) = arrow (read b U) (arrow (read b V) (read b W))

-- more arguments
abbrev pub with_arguments : (constants : ℕ → List Ty → Ty) → List Ty → Headed → List Term → Headed
with_arguments K C h [] = h
with_arguments K C h (t ∷ ts) = with_arguments K C (with_argument h (listed K C h.around (from_of h.function) t)) ts
