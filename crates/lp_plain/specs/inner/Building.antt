-- The tasks by which an instance is made have the terms that they need, and each leaves less to do.
use Rattle.std.specs.Prelude.{◌≡◌, ℕ, ◌+◌, ◌-◌, ◌*◌, ◌^◌, ◌<◌, ◌≤◌, List, [], ◌∷◌, length, reverse}
use Rattle.lp_term.specs.Node.{TermShape, index_node, const_node, int_node, text_node, eigen_node, logic_node, typed_param_node, abs_node, app_node}
use Rattle.lp_term.specs.Nodes.{Nodes, term_at}
use Rattle.lp_plain.specs.declared.instance.Task.{Task}
use Rattle.lp_plain.specs.inner.Looking.{term_weight, weight_of_all}

-- of how many terms a node is built
abbrev pub parts_of : TermShape → ℕ
parts_of (index_node i) = 0
parts_of (const_node c ids) = 0
parts_of (int_node z) = 0
parts_of (text_node s) = 0
parts_of (eigen_node k) = 0
parts_of (logic_node x l) = 0
parts_of (typed_param_node k t) = 0
parts_of (abs_node b) = 1
parts_of (app_node f ids) = length ids + 1

-- neither an index nor built of others
abbrev pub IsAtomNode : TermShape → Type 0
IsAtomNode (index_node i) = ⊥
IsAtomNode (const_node c ids) = Unit {0}
IsAtomNode (int_node z) = Unit {0}
IsAtomNode (text_node s) = Unit {0}
IsAtomNode (eigen_node k) = Unit {0}
IsAtomNode (logic_node x l) = Unit {0}
IsAtomNode (typed_param_node k t) = Unit {0}
IsAtomNode (abs_node b) = ⊥
IsAtomNode (app_node f ids) = ⊥

-- the node of this number is built of others, and there are so many terms
abbrev pub IsReady : Nodes → (number made : ℕ) → Type 0
IsReady b i n = (i < length b.terms) × (1 ≤ parts_of (term_at b i)) × (parts_of (term_at b i) ≤ n)

-- the tasks, the next one first, have the terms that they need, and one is left behind them. The number of a term and how deep it stands are few
abbrev pub IsFed : Nodes → List Task → (made : ℕ) → Type 0
IsFed b [] n = n ≡ 1
IsFed b (Task.Visit t d ∷ ts) n = (t.0 < length b.terms) × (d + t.0 < 2 ^ 62) × IsFed b ts (n + 1)
IsFed b (Task.Build t ∷ ts) n = IsReady b t.0 n × IsFed b ts (n - parts_of (term_at b t.0) + 1)

-- what is left to do
abbrev pub toil_of : Nodes → Task → ℕ
toil_of b (Task.Visit t d) = 2 * term_weight b t.0
toil_of b (Task.Build t) = 1

abbrev pub toil : Nodes → List Task → ℕ
toil b ts = weight_of_all (toil_of b) ts

-- a task was taken: the others have the terms that they need, and less is left to do
abbrev pub GoesFed : (old new : Nodes) → Task → (tasks tasks' : List Task) → (made : ℕ) → Type 0
GoesFed b d t ts us n = IsFed d (reverse us) n × (toil d (reverse us) < toil b (t ∷ reverse ts))
