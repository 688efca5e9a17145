-- The bank that is read.
use Rattle.std.specs.Prelude.{Bool, true, false}
use Rattle.lp_term.specs.Nodes.{Nodes}

-- another one, or the one that is built
abbrev pub read_of : (here : Bool) → (from to : Nodes) → Nodes
read_of true a d = d
read_of false a d = a
