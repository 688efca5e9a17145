use Rattle.std.proofs.Common.{refl}
use Rattle.lp_term.proofs.Trees.{extends_same}
use Rattle.lp_plain.proofs.negation.end_denial.Goals as goal

pub returns-then-lost-clause-written : goal.returns-then-lost-clause-written
returns-then-lost-clause-written c = λ ar w. record { at_work = w.at_work; alternatives = w.alternatives; older = w.older }

pub returns-clause-written : goal.returns-clause-written
returns-clause-written c = λ ar w. record { at_work = w.at_work; alternatives = w.alternatives; older = w.older }

pub returns-then-lost-clause-program : goal.returns-then-lost-clause-program
returns-then-lost-clause-program c = record { bank = extends_same c.args.machine.now.bank; table = refl; index = refl }

pub returns-clause-program : goal.returns-clause-program
returns-clause-program c = record { bank = extends_same c.args.machine.now.bank; table = refl; index = refl }
