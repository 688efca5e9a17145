use Rattle.lp_cert.specs.declared.work.Task.TheVariants as task
use Rattle.lp_cert.proofs.Stepping.{task_pushed}
use Rattle.std.proofs.Common.{refl}
use Rattle.lp_cert.proofs.work.Work.focus_on.Goals as goal

pub returns-clause-left : goal.returns-clause-left
returns-clause-left c = λ b ns h. task_pushed b c.args.self.now c.push.new.self.items (task.Focus c.args.clause c.args.atom) ns c.in_ok-push.ensures.items h

pub returns-clause-pushes : goal.returns-clause-pushes
returns-clause-pushes c = (refl, record { theory = refl; eigens = refl; assumed = refl; tasks = c.in_ok-push.ensures.items })
