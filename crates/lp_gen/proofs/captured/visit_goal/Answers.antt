use Rattle.lp_gen.proofs.CapturedBy.{atom_holds, cut_holds, either_holds, some_holds, all_holds, assume_holds, not_holds}
use Rattle.lp_gen.proofs.CapturedFrom.{atom_has, either_has, some_has, all_has, assume_has, not_has}
use Rattle.lp_gen.proofs.captured.visit_goal.Goals as goal

pub returns-in_ok-push-in-Atom-clause-marks : goal.returns-in_ok-push-in-Atom-clause-marks
returns-in_ok-push-in-Atom-clause-marks c = λ n ks h.
    atom_holds c.args.bank.now n ks c.args.depth c.args.goal.now c.in-Atom.term c.args.work.now.items c.push.new.self.items c.in-Atom.is c.in_ok-push-in-Atom.ensures.items h

pub returns-in-Cut-clause-marks : goal.returns-in-Cut-clause-marks
returns-in-Cut-clause-marks c = λ n ks h. (h, λ d w. cut_holds c.args.bank.now n ks d c.args.goal.now c.in-Cut.is)

pub returns-in_ok-push-in-Either-2-clause-marks : goal.returns-in_ok-push-in-Either-2-clause-marks
returns-in_ok-push-in-Either-2-clause-marks c = λ n ks h.
    either_holds c.args.bank.now n ks c.args.depth c.args.goal.now c.in-Either.left c.in-Either.right c.as_slice.result c.as_slice-in-Either.result c.args.work.now.items
    c.push-in-Either.new.self.items
    c.push-in-Either-2.new.self.items c.in-Either.is c.as_slice.ensures.value c.as_slice-in-Either.ensures.value c.in_ok-push-in-Either.ensures.items c.in_ok-push-in-Either-2.ensures.items h

pub returns-in_ok-push-in-Some-clause-marks : goal.returns-in_ok-push-in-Some-clause-marks
returns-in_ok-push-in-Some-clause-marks c = λ n ks h.
    some_holds c.args.bank.now n ks c.args.depth c.deeper-under.result c.args.goal.now c.in-Some.field-0 c.in-Some.goals c.as_slice-in-Some.result c.args.work.now.items
    c.push-in-Some.new.self.items c.in-Some.is
    c.as_slice-in-Some.ensures.value c.deeper-under.ensures c.in_ok-push-in-Some.ensures.items h

pub returns-in_ok-push-in-All-clause-marks : goal.returns-in_ok-push-in-All-clause-marks
returns-in_ok-push-in-All-clause-marks c = λ n ks h.
    all_holds c.args.bank.now n ks c.args.depth c.deeper-under-in-All.result c.args.goal.now c.in-All.field-0 c.in-All.goals c.as_slice-in-All.result c.args.work.now.items
    c.push-in-All.new.self.items c.in-All.is
    c.as_slice-in-All.ensures.value c.deeper-under-in-All.ensures c.in_ok-push-in-All.ensures.items h

pub returns-in_ok-push-in-Assume-2-clause-marks : goal.returns-in_ok-push-in-Assume-2-clause-marks
returns-in_ok-push-in-Assume-2-clause-marks c = λ n ks h.
    assume_holds c.args.bank.now n ks c.args.depth c.args.goal.now c.in-Assume.clauses c.in-Assume.goals c.as_slice-in-Assume.result c.as_slice-in-Assume-2.result c.args.work.now.items
    c.push-in-Assume.new.self.items
    c.push-in-Assume-2.new.self.items c.in-Assume.is c.as_slice-in-Assume.ensures.value c.as_slice-in-Assume-2.ensures.value c.in_ok-push-in-Assume.ensures.items
    c.in_ok-push-in-Assume-2.ensures.items h

pub returns-in_ok-push-in-Not-clause-marks : goal.returns-in_ok-push-in-Not-clause-marks
returns-in_ok-push-in-Not-clause-marks c = λ n ks h.
    not_holds c.args.bank.now n ks c.args.depth c.args.goal.now c.in-Not.goals c.as_slice-in-Not.result c.args.work.now.items c.push-in-Not.new.self.items c.in-Not.is c.as_slice-in-Not.ensures.value
    c.in_ok-push-in-Not.ensures.items h

pub returns-in_ok-push-in-Atom-clause-finds : goal.returns-in_ok-push-in-Atom-clause-finds
returns-in_ok-push-in-Atom-clause-finds c = λ p h d w x.
    atom_has c.args.bank.now p c.args.depth c.args.goal.now c.in-Atom.term c.args.work.now.items c.push.new.self.items c.in-Atom.is c.in_ok-push-in-Atom.ensures.items h d w x

pub returns-in-Cut-clause-finds : goal.returns-in-Cut-clause-finds
returns-in-Cut-clause-finds c = λ p h d w x. h

pub returns-in_ok-push-in-Either-2-clause-finds : goal.returns-in_ok-push-in-Either-2-clause-finds
returns-in_ok-push-in-Either-2-clause-finds c = λ p h d w x.
    either_has c.args.bank.now p c.args.depth c.args.goal.now c.in-Either.left c.in-Either.right c.as_slice.result c.as_slice-in-Either.result c.args.work.now.items
    c.push-in-Either.new.self.items
    c.push-in-Either-2.new.self.items c.in-Either.is c.as_slice.ensures.value c.as_slice-in-Either.ensures.value c.in_ok-push-in-Either.ensures.items c.in_ok-push-in-Either-2.ensures.items h d w x

pub returns-in_ok-push-in-Some-clause-finds : goal.returns-in_ok-push-in-Some-clause-finds
returns-in_ok-push-in-Some-clause-finds c = λ p h d w x.
    some_has c.args.bank.now p c.args.depth c.deeper-under.result c.args.goal.now c.in-Some.field-0 c.in-Some.goals c.as_slice-in-Some.result c.args.work.now.items
    c.push-in-Some.new.self.items c.in-Some.is
    c.as_slice-in-Some.ensures.value c.deeper-under.ensures c.in_ok-push-in-Some.ensures.items h d w x

pub returns-in_ok-push-in-All-clause-finds : goal.returns-in_ok-push-in-All-clause-finds
returns-in_ok-push-in-All-clause-finds c = λ p h d w x.
    all_has c.args.bank.now p c.args.depth c.deeper-under-in-All.result c.args.goal.now c.in-All.field-0 c.in-All.goals c.as_slice-in-All.result c.args.work.now.items
    c.push-in-All.new.self.items c.in-All.is
    c.as_slice-in-All.ensures.value c.deeper-under-in-All.ensures c.in_ok-push-in-All.ensures.items h d w x

pub returns-in_ok-push-in-Assume-2-clause-finds : goal.returns-in_ok-push-in-Assume-2-clause-finds
returns-in_ok-push-in-Assume-2-clause-finds c = λ p h d w x.
    assume_has c.args.bank.now p c.args.depth c.args.goal.now c.in-Assume.clauses c.in-Assume.goals c.as_slice-in-Assume.result c.as_slice-in-Assume-2.result c.args.work.now.items
    c.push-in-Assume.new.self.items
    c.push-in-Assume-2.new.self.items c.in-Assume.is c.as_slice-in-Assume.ensures.value c.as_slice-in-Assume-2.ensures.value c.in_ok-push-in-Assume.ensures.items
    c.in_ok-push-in-Assume-2.ensures.items h d w x

pub returns-in_ok-push-in-Not-clause-finds : goal.returns-in_ok-push-in-Not-clause-finds
returns-in_ok-push-in-Not-clause-finds c = λ p h d w x.
    not_has c.args.bank.now p c.args.depth c.args.goal.now c.in-Not.goals c.as_slice-in-Not.result c.args.work.now.items c.push-in-Not.new.self.items c.in-Not.is c.as_slice-in-Not.ensures.value
    c.in_ok-push-in-Not.ensures.items h d w x
