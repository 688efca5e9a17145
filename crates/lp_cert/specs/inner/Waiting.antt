-- The bytes of the types and terms that wait on a stack to be written, the last one first.
use Rattle.std.specs.Prelude.{ℕ, List, [], ◌≢◌, reverse}
use Rattle.std.specs.List.{flat_map}
use Rattle.lp_term.specs.declared.node.TypeId.{TypeId}
use Rattle.lp_term.specs.declared.node.TermId.{TermId}
use Rattle.lp_term.specs.Nodes.{Nodes}
use Rattle.lp_term.specs.Node.{TermShape, index_node, const_node, int_node, text_node, eigen_node, logic_node, typed_param_node, abs_node, app_node}
use Rattle.lp_cert.specs.Spelling.{spelled_type, spelled_term}
use Rattle.lp_cert.specs.inner.Parts.{types_stacked, terms_stacked}

abbrev pub types_waiting : Nodes → List TypeId → List ℕ
types_waiting b ids = flat_map spelled_type (types_stacked b ids)

abbrev pub terms_waiting : Nodes → List TermId → List ℕ
terms_waiting b ids = flat_map spelled_term (terms_stacked b ids)

-- a head has an argument
abbrev pub HasArguments : TermShape → Type 0
HasArguments (app_node f ids) = ids ≢ []
HasArguments (index_node i) = Unit {0}
HasArguments (const_node c ids) = Unit {0}
HasArguments (int_node z) = Unit {0}
HasArguments (text_node s) = Unit {0}
HasArguments (eigen_node k) = Unit {0}
HasArguments (logic_node v level) = Unit {0}
HasArguments (typed_param_node k t) = Unit {0}
HasArguments (abs_node b) = Unit {0}
