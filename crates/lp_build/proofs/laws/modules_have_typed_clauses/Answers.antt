use Rattle.lp_build.proofs.TypedClauses.{has_typed_clauses, have_typed_clauses}
use Rattle.lp_build.proofs.laws.modules_have_typed_clauses.Goals as goal

pub returns-clause-one : goal.returns-clause-one
returns-clause-one c = has_typed_clauses

pub returns-clause-all : goal.returns-clause-all
returns-clause-all c = have_typed_clauses
