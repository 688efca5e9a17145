use Rattle.lp_normal.proofs.Turnings.{popped_in, popped_next}
use Rattle.std.proofs.Common.{arith}
use Rattle.lp_normal.proofs.Works.{waiting_pushed, waiting_popped}
use Rattle.lp_normal.proofs.step.goals_move.Goals as goal

pub next_goal-requires-clause-list : goal.next_goal-requires-clause-list
next_goal-requires-clause-list c = (popped_in c.args.bank.now c.args.list c.pop.new.self c.in-Some.next c.in-Some.ensures.items c.requires.list).0

pub next_goal-requires-clause-next : goal.next_goal-requires-clause-next
next_goal-requires-clause-next c = (popped_in c.args.bank.now c.args.list c.pop.new.self c.in-Some.next c.in-Some.ensures.items c.requires.list).1

pub returns-clause-comes : goal.returns-clause-comes
returns-clause-comes c = λ whole h.
    c.in_ok-inner.ensures.comes h.0 whole (popped_next c.args.bank.now c.args.list c.pop.new.self c.in-Some.next h.0 c.in-Some.ensures.items h.1) h.2

pub returns-in_default-clause-met : goal.returns-in_default-clause-met
returns-in_default-clause-met c = λ b. c.in_ok-ended.ensures.met b

pub returns-clause-met : goal.returns-clause-met
returns-clause-met c = λ b. c.in_ok-inner.ensures.met b

pub returns-in_default-clause-less : goal.returns-in_default-clause-less
returns-in_default-clause-less c = λ d x. omega (arith, c.in_ok-ended.ensures.less d, waiting_popped d c.args.list.waiting.items c.pop.new.self.items c.in_default.ensures.items)

pub returns-clause-less : goal.returns-clause-less
returns-clause-less c = λ d x. omega (arith, c.in_ok-inner.ensures.less d x, waiting_pushed d c.args.list.waiting.items c.pop.new.self.items c.in-Some.next c.in-Some.ensures.items)
