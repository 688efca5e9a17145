use Rattle.lp_build.proofs.Walking.{module_owed}
use Rattle.lp_build.proofs.walk.Loading.await_module.Goals as goal

pub returns-clause-owed : goal.returns-clause-owed
returns-clause-owed c = λ all left h. module_owed all _ c.args.self.now.work.items _ _ c.args.name.now left c.in_ok-push.ensures.items c.in_ok-module.ensures.ok h
