-- What a contract sees of a search.
use Rattle.std.specs.Prelude.{ℕ, Bool, List, Option, length, nat_eq}
use Rattle.indexmap.specs.IndexMap.{get}
use Rattle.lp_term.specs.declared.node.TermId.{TermId}
use Rattle.lp_term.specs.declared.node.TypeId.{TypeId}
use Rattle.lp_model.specs.declared.ending.Ending.{Ending}
use Rattle.lp_model.specs.declared.program.Declared.{Declared}
use Rattle.lp_model.specs.declared.program.Typed.{Typed}
use Rattle.lp_plain.specs.declared.search.Search.{Search}

-- how many variables the query has
unfoldable pub variables_of : Search → ℕ
variables_of s = length s.variables.items

-- how the search ended, if it did
unfoldable pub ended : Search → Option Ending
ended s = s.ended

-- memory ran out
unfoldable pub failed : Search → Bool
failed s = s.failed

-- what a variable is bound to
unfoldable pub value_of : Search → ℕ → Option TermId
value_of s x = get nat_eq s.machine.bindings.terms x

unfoldable pub type_value_of : Search → ℕ → Option TypeId
type_value_of s x = get nat_eq s.machine.bindings.types x

-- the query
unfoldable pub query_of : Search → Typed
query_of s = s.source.query

-- the steps it took
unfoldable pub steps_of : Search → ℕ
steps_of s = s.machine.counts.steps

-- the constants that its program declares
unfoldable pub constants_of : Search → List Declared
constants_of s = s.constants.items
