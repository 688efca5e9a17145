use Rattle.lp_build.proofs.TextModules.{all_written, as_written}
use Rattle.lp_build.proofs.laws.modules_have_the_types_that_are_written.Goals as goal

pub returns-clause-one : goal.returns-clause-one
returns-clause-one c = as_written

pub returns-clause-all : goal.returns-clause-all
returns-clause-all c = all_written
