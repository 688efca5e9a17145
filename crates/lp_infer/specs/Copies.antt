-- Types of a bank as trees, and types for the variables of a type.
use Rattle.std.specs.Prelude.{◌≡◌, ◌<◌, List, map, length, get_or}
use Rattle.lp_calculus.specs.Types.{Ty}
use Rattle.lp_term.specs.Mapped.{Told}
use Rattle.lp_term.specs.Nodes.{Nodes, type_tree}
use Rattle.lp_term.specs.declared.becomes.TermChange.{TermChange}
use Rattle.lp_term.specs.declared.becomes.TypeChange.{TypeChange}
use Rattle.lp_term.specs.declared.node.TypeId.{TypeId}
use Rattle.lp_infer.specs.declared.instance.TypeArguments.{TypeArguments}

-- the types that these numbers name
abbrev pub trees_of : Nodes → List TypeId → List Ty
trees_of b ids = map (λ t. type_tree b t.0) ids

-- a type of the bank
abbrev pub IsType : Nodes → TypeId → Ty → Type 0
IsType b id T = (id.0 < length b.types) × (type_tree b id.0 ≡ T)

-- a type variable becomes the argument of its number, or the other type where there is none
abbrev pub by_arguments : TypeArguments → Told
by_arguments f = record { kinds = λ k. k; constants = λ k. k; types = λ x. TypeChange.Is (get_or f.args.now x f.other); terms = λ x. TermChange.Stays }
