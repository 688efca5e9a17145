use Rattle.lp_build.proofs.TextModules.{meant_ready, refused_ready}
use Rattle.lp_build.proofs.laws.modules_see_signatures_of_texts.Goals as goal

pub returns-clause-meant : goal.returns-clause-meant
returns-clause-meant c = meant_ready

pub returns-clause-refused : goal.returns-clause-refused
returns-clause-refused c = refused_ready
