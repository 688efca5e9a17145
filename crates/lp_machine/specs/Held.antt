-- What a contract sees of a machine between two events.
use Rattle.std.specs.Prelude.{ℕ, Bool, Option, length}
use Rattle.lp_model.specs.declared.ending.Ending.{Ending}
use Rattle.lp_machine.specs.declared.machine.Machine.{Machine}

-- how many variables the query has
unfoldable pub variables_of : Machine → ℕ
variables_of m = length m.variables.items

-- how the search ended, if it did
unfoldable pub ended : Machine → Option Ending
ended m = m.ended

-- memory ran out
unfoldable pub failed : Machine → Bool
failed m = m.failed
