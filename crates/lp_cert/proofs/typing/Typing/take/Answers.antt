use Rattle.lp_cert.proofs.Deriving.{task_is}
use Rattle.lp_cert.specs.declared.typing.Task.TheVariants as task
use Rattle.lp_cert.proofs.Visiting.{task_as, task_plain}
use Rattle.lp_cert.proofs.typing.Typing.take.Goals as goal

pub returns-in-Visit-clause-moves : goal.returns-in-Visit-clause-moves
returns-in-Visit-clause-moves c = task_is c.visit.new.bank c.args.self.now c.visit.new.self c.visit.result c.args.task (task.Visit c.in-Visit.term) c.in-Visit.is c.visit.ensures.moves

pub returns-in-Close-clause-moves : goal.returns-in-Close-clause-moves
returns-in-Close-clause-moves c = task_is c.close.new.bank c.args.self.now c.close.new.self c.close.result c.args.task task.Close c.in-Close.is c.close.ensures.moves

pub returns-in-Apply-clause-moves : goal.returns-in-Apply-clause-moves
returns-in-Apply-clause-moves c = task_is c.apply.new.bank c.args.self.now c.apply.new.self c.apply.result c.args.task task.Apply c.in-Apply.is c.apply.ensures.moves

pub returns-in-Visit-clause-keeps : goal.returns-in-Visit-clause-keeps
returns-in-Visit-clause-keeps c = task_as c.args.bank.now c.visit.new.bank c.args.self.now c.visit.new.self c.visit.result c.args.task (task.Visit c.in-Visit.term) c.in-Visit.is c.visit.ensures.keeps

pub returns-in-Close-clause-keeps : goal.returns-in-Close-clause-keeps
returns-in-Close-clause-keeps c = task_plain c.args.bank.now c.close.new.bank c.args.self.now c.close.new.self c.close.result c.args.task task.Close c.in-Close.is c.close.ensures.keeps

pub returns-in-Apply-clause-keeps : goal.returns-in-Apply-clause-keeps
returns-in-Apply-clause-keeps c = task_plain c.args.bank.now c.apply.new.bank c.args.self.now c.apply.new.self c.apply.result c.args.task task.Apply c.in-Apply.is c.apply.ensures.keeps
