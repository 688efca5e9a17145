-- What the tables of a program's names hold.
use Rattle.std.specs.Prelude.{◌≡◌, ℕ, List}
use Rattle.lp_term.specs.Node.{TypeShape, var_node, param_node, con_node, arrow_node}
use Rattle.lp_module.specs.declared.copies.GlobalName.{GlobalName}
use Rattle.lp_build.specs.Queried.{global_of}
use Rattle.lp_build.specs.declared.links.Numbers.{Numbers}
use Rattle.lp_build.specs.inner.Linked.{number_of}

-- the table has the places of the global ones among these names
abbrev pub HasGlobals : Numbers → List GlobalName → Type 0
HasGlobals n names = (name : List ℕ) → number_of n name ≡ global_of names name

-- a node with another number for its kind
abbrev pub with_kind : (ℕ → ℕ) → TypeShape → TypeShape
with_kind f (var_node i) = var_node i
with_kind f (param_node k) = param_node k
with_kind f (con_node c ids) = con_node (f c) ids
with_kind f (arrow_node a b) = arrow_node a b
