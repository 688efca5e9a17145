use Rattle.std.proofs.Common.{length, reverse, subst, sym}
use Rattle.lp_lemmas.proofs.Lists.{reverse_pushed}
use Rattle.lp_plain.specs.inner.Evaluating.{GoesServed, Serves}
use Rattle.std.proofs.Common.{arith, refl}
use Rattle.lp_term.proofs.Trees.{extends_same}
use Rattle.lp_term.proofs.Moves.{nothing}
use Rattle.lp_plain.proofs.Evaluations.{last_step}
use Rattle.lp_plain.proofs.arithmetic.go_on.Goals as goal

pub returns-in_default-clause-bank : goal.returns-in_default-clause-bank
returns-in_default-clause-bank c = record { bank = extends_same c.args.machine.now.bank; same = refl }

pub returns-in_default-clause-goes : goal.returns-in_default-clause-goes
returns-in_default-clause-goes c = λ m t ob way.
    last_step m c.args.machine.now t c.args.tasks.now.items c.pop.new.self.items c.args.values.now.items c.last_value-outcome.new.values.items
    c.args.visited c.last_value-outcome.result (nothing c.args.tasks.now.items (omega (arith, c.in_default.ensures.cases.0, c.args.tasks.now.ok)))
    c.last_value-outcome.ensures way

pub returns-clause-goes : goal.returns-clause-goes
returns-clause-goes c = λ m t ob way. c.in_ok-step.ensures.goes m t c.args.tasks.now.items c.in-Some.ensures.items ob way

pub last_value-outcome-requires : goal.last_value-outcome-requires
last_value-outcome-requires c =
    let e = subst (λ x. Serves (reverse x) (length c.args.values.now.items)) (nothing c.args.tasks.now.items (omega (arith, c.in_default.ensures.cases.0, c.args.tasks.now.ok))) c.requires in
    omega (arith, e)

pub take_counted-requires : goal.take_counted-requires
take_counted-requires c = subst (λ x. Serves x (length c.args.values.now.items)) (reverse_pushed c.args.tasks.now.items c.pop.new.self.items c.in-Some.task c.in-Some.ensures.items) c.requires

pub returns-in_default-clause-served : goal.returns-in_default-clause-served
returns-in_default-clause-served c = tt

pub returns-clause-served : goal.returns-clause-served
returns-clause-served c =
    subst (λ x. GoesServed c.in_ok-step.step c.args.visited x c.take_counted.new.tasks.items c.take_counted.new.values.items) (sym c.in-Some.ensures.items) c.in_ok-step.ensures.served
