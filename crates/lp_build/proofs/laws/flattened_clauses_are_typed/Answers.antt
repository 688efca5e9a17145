use Rattle.lp_build.proofs.TypedFlat.{flatten_typed, flattens_typed}
use Rattle.lp_build.proofs.laws.flattened_clauses_are_typed.Goals as goal

pub returns-clause-one : goal.returns-clause-one
returns-clause-one c = flattens_typed

pub returns-clause-all : goal.returns-clause-all
returns-clause-all c = flatten_typed
