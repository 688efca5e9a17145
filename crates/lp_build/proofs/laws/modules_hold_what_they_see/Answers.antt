use Rattle.lp_build.proofs.Over.{hold_what_they_see, holds_what_it_sees}
use Rattle.lp_build.proofs.laws.modules_hold_what_they_see.Goals as goal

pub returns-clause-one : goal.returns-clause-one
returns-clause-one c = holds_what_it_sees

pub returns-clause-all : goal.returns-clause-all
returns-clause-all c = hold_what_they_see
