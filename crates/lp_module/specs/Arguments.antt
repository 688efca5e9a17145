-- How many arguments the heads of a term as written have.
use Rattle.std.specs.Prelude.{ℕ, ◌+◌, ◌<◌, List, [], ◌∷◌, ◌++◌, get_or, Contains}
use Rattle.lp_base.specs.declared.limits.TheConstants.{MAX_ARGUMENTS}
use Rattle.lp_syntax.specs.declared.text.RawNode.{RawNode}
use Rattle.lp_syntax.specs.declared.text.RawNode.TheVariants.{Name, Known, Number, Text, App, Abs}
use Rattle.lp_syntax.specs.declared.text.RawTerm.{RawTerm}

-- the arguments of a node's head, behind those of the nodes before it: a part of a node stands before it
abbrev pub own_count : List ℕ → RawNode → ℕ
own_count before (App f a) = get_or before f 0 + 1
own_count before (Name s) = 0
own_count before (Known n s) = 0
own_count before (Number n s) = 0
own_count before (Text s) = 0
own_count before (Abs s annotation b) = 0

-- of all nodes, in order
abbrev pub counts_behind : List ℕ → List RawNode → List ℕ
counts_behind before [] = before
counts_behind before (n ∷ ns) = counts_behind (before ++ own_count before n ∷ []) ns

-- some head has more than 255
abbrev pub HasManyArguments : RawTerm → Type 0
HasManyArguments raw = (k : ℕ) × Contains (counts_behind [] raw.nodes.items) k × (MAX_ARGUMENTS < k)
