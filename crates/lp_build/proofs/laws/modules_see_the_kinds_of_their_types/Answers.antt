use Rattle.lp_build.proofs.OwnTypes.{all_own_types, own_types}
use Rattle.lp_build.proofs.laws.modules_see_the_kinds_of_their_types.Goals as goal

pub returns-clause-one : goal.returns-clause-one
returns-clause-one c = own_types

pub returns-clause-all : goal.returns-clause-all
returns-clause-all c = all_own_types
