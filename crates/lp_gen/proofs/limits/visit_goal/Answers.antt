use Rattle.lp_lemmas.proofs.Results.{passed_up}
use Rattle.lp_model.specs.Flattened.{goal_of}
use Rattle.lp_gen.specs.Limits.{goal_counts}
use Rattle.lp_gen.specs.inner.Limiting.{counting_of, IsOver}
use Rattle.lp_gen.proofs.LimitsWork.{atom_less, some_less, all_less, not_less, either_less, assume_less}
use Rattle.lp_gen.proofs.LimitsLeft.{atom_met, cut_met, either_met, some_met, all_met, assume_met, not_met, either_over, all_over, assume_over, not_over}
use Rattle.lp_gen.proofs.limits.visit_goal.Goals as goal

pub returns-in_ok-push-in-Atom-clause-met : goal.returns-in_ok-push-in-Atom-clause-met
returns-in_ok-push-in-Atom-clause-met c =
    atom_met c.args.bank.now c.args.tally.now.look c.args.number c.args.tally.now.room c.args.goal.now c.args.work.now.items c.args.work.now.items c.push.new.self.items c.in-Atom.term c.in-Atom.is c.in_ok-push-in-Atom.ensures.items

pub returns-in-Cut-clause-met : goal.returns-in-Cut-clause-met
returns-in-Cut-clause-met c = cut_met c.args.bank.now c.args.tally.now.look c.args.number c.args.tally.now.room c.args.goal.now c.args.work.now.items c.args.work.now.items c.args.work.now.items c.in-Cut.is

pub returns-in_ok-push-in-Either-2-clause-met : goal.returns-in_ok-push-in-Either-2-clause-met
returns-in_ok-push-in-Either-2-clause-met c =
    either_met c.args.bank.now c.args.tally.now.look c.args.number c.args.tally.now.room c.args.goal.now c.args.work.now.items c.push-in-Either.new.self.items c.push-in-Either-2.new.self.items
    c.in_ok-within-in-Either.within c.in-Either.left c.in-Either.right c.as_slice.result c.as_slice-in-Either.result c.in-Either.is c.as_slice.ensures.value c.as_slice-in-Either.ensures.value c.in_ok-within-in-Either.ensures.number
    c.in_ok-push-in-Either.ensures.items c.in_ok-push-in-Either-2.ensures.items

pub returns-in_ok-push-in-Some-clause-met : goal.returns-in_ok-push-in-Some-clause-met
returns-in_ok-push-in-Some-clause-met c =
    some_met c.args.bank.now c.args.tally.now.look c.args.number c.args.tally.now.room c.args.goal.now c.args.work.now.items c.args.work.now.items c.push-in-Some.new.self.items c.in-Some.field-0 c.in-Some.goals
    c.as_slice-in-Some.result c.in-Some.is c.as_slice-in-Some.ensures.value c.in_ok-push-in-Some.ensures.items

pub returns-in_ok-push-in-All-clause-met : goal.returns-in_ok-push-in-All-clause-met
returns-in_ok-push-in-All-clause-met c =
    all_met c.args.bank.now c.args.tally.now.look c.args.number c.args.tally.now.room c.args.goal.now c.args.work.now.items c.args.work.now.items c.push-in-All.new.self.items c.in_ok-within-in-All.within
    c.in-All.field-0 c.in-All.goals c.as_slice-in-All.result c.in-All.is c.as_slice-in-All.ensures.value c.in_ok-within-in-All.ensures.number c.in_ok-push-in-All.ensures.items

pub returns-in_ok-push-in-Assume-2-clause-met : goal.returns-in_ok-push-in-Assume-2-clause-met
returns-in_ok-push-in-Assume-2-clause-met c =
    assume_met c.args.bank.now c.args.tally.now.look c.args.number c.args.tally.now.room c.args.goal.now c.args.work.now.items c.push-in-Assume.new.self.items c.push-in-Assume-2.new.self.items
    c.in_ok-within-in-Assume.within c.in-Assume.clauses c.in-Assume.goals c.as_slice-in-Assume.result c.as_slice-in-Assume-2.result c.in-Assume.is c.as_slice-in-Assume.ensures.value
    c.as_slice-in-Assume-2.ensures.value c.in_ok-within-in-Assume.ensures.number c.in_ok-push-in-Assume.ensures.items c.in_ok-push-in-Assume-2.ensures.items

pub returns-in_ok-push-in-Not-clause-met : goal.returns-in_ok-push-in-Not-clause-met
returns-in_ok-push-in-Not-clause-met c =
    not_met c.args.bank.now c.args.tally.now.look c.args.number c.args.tally.now.room c.args.goal.now c.args.work.now.items c.args.work.now.items c.push-in-Not.new.self.items c.in_ok-within-in-Not.within
    c.in-Not.goals c.as_slice-in-Not.result c.in-Not.is c.as_slice-in-Not.ensures.value c.in_ok-within-in-Not.ensures.number c.in_ok-push-in-Not.ensures.items

pub returns-in_ok-push-in-Atom-clause-less : goal.returns-in_ok-push-in-Atom-clause-less
returns-in_ok-push-in-Atom-clause-less c = atom_less c.args.bank.now c.args.goal.now c.args.work.now.items c.args.work.now.items c.push.new.self.items c.in-Atom.term 0 c.in-Atom.is c.in_ok-push-in-Atom.ensures.items

pub returns-in_ok-push-in-Either-2-clause-less : goal.returns-in_ok-push-in-Either-2-clause-less
returns-in_ok-push-in-Either-2-clause-less c =
    either_less c.args.bank.now c.args.goal.now c.args.work.now.items c.push-in-Either.new.self.items c.push-in-Either-2.new.self.items c.in-Either.left c.in-Either.right c.as_slice.result c.as_slice-in-Either.result c.in_ok-within-in-Either.within c.in-Either.is
    c.as_slice.ensures.value c.as_slice-in-Either.ensures.value c.in_ok-push-in-Either.ensures.items c.in_ok-push-in-Either-2.ensures.items

pub returns-in_ok-push-in-Some-clause-less : goal.returns-in_ok-push-in-Some-clause-less
returns-in_ok-push-in-Some-clause-less c =
    some_less c.args.bank.now c.args.goal.now c.args.work.now.items c.args.work.now.items c.push-in-Some.new.self.items c.in-Some.field-0 c.in-Some.goals c.as_slice-in-Some.result c.args.number c.in-Some.is c.as_slice-in-Some.ensures.value
    c.in_ok-push-in-Some.ensures.items

pub returns-in_ok-push-in-All-clause-less : goal.returns-in_ok-push-in-All-clause-less
returns-in_ok-push-in-All-clause-less c =
    all_less c.args.bank.now c.args.goal.now c.args.work.now.items c.args.work.now.items c.push-in-All.new.self.items c.in-All.field-0 c.in-All.goals c.as_slice-in-All.result c.in_ok-within-in-All.within c.in-All.is c.as_slice-in-All.ensures.value
    c.in_ok-push-in-All.ensures.items

pub returns-in_ok-push-in-Assume-2-clause-less : goal.returns-in_ok-push-in-Assume-2-clause-less
returns-in_ok-push-in-Assume-2-clause-less c =
    assume_less c.args.bank.now c.args.goal.now c.args.work.now.items c.push-in-Assume.new.self.items c.push-in-Assume-2.new.self.items c.in-Assume.clauses c.in-Assume.goals c.as_slice-in-Assume.result c.as_slice-in-Assume-2.result c.in_ok-within-in-Assume.within
    c.in-Assume.is c.as_slice-in-Assume.ensures.value c.as_slice-in-Assume-2.ensures.value c.in_ok-push-in-Assume.ensures.items c.in_ok-push-in-Assume-2.ensures.items

pub returns-in_ok-push-in-Not-clause-less : goal.returns-in_ok-push-in-Not-clause-less
returns-in_ok-push-in-Not-clause-less c =
    not_less c.args.bank.now c.args.goal.now c.args.work.now.items c.args.work.now.items c.push-in-Not.new.self.items c.in-Not.goals c.as_slice-in-Not.result c.in_ok-within-in-Not.within c.in-Not.is c.as_slice-in-Not.ensures.value c.in_ok-push-in-Not.ensures.items

pub returns-in_err-within-in-Either-clause-cause : goal.returns-in_err-within-in-Either-clause-cause
returns-in_err-within-in-Either-clause-cause c =
    let k = c.args.tally.now.look in
    let r = c.args.tally.now.room in
    let e = c.in_err-within-in-Either.field-0.0 in
    passed_up c.from_residual-in_err-within-in-Either.result e (IsOver k r (goal_counts (counting_of k) c.args.number (goal_of c.args.bank.now c.args.goal.now))) c.from_residual-in_err-within-in-Either.ensures.1
    (either_over c.args.bank.now k c.args.number r c.args.goal.now e c.in_err-within-in-Either.ensures.cause c.in-Either.left c.in-Either.right c.in-Either.is)

pub returns-in_err-within-in-All-clause-cause : goal.returns-in_err-within-in-All-clause-cause
returns-in_err-within-in-All-clause-cause c =
    let k = c.args.tally.now.look in
    let r = c.args.tally.now.room in
    let e = c.in_err-within-in-All.field-0.0 in
    passed_up c.from_residual-in_err-within-in-All.result e (IsOver k r (goal_counts (counting_of k) c.args.number (goal_of c.args.bank.now c.args.goal.now))) c.from_residual-in_err-within-in-All.ensures.1
    (all_over c.args.bank.now k c.args.number r c.args.goal.now e c.in_err-within-in-All.ensures.cause c.in-All.field-0 c.in-All.goals c.in-All.is)

pub returns-in_err-within-in-Assume-clause-cause : goal.returns-in_err-within-in-Assume-clause-cause
returns-in_err-within-in-Assume-clause-cause c =
    let k = c.args.tally.now.look in
    let r = c.args.tally.now.room in
    let e = c.in_err-within-in-Assume.field-0.0 in
    passed_up c.from_residual-in_err-within-in-Assume.result e (IsOver k r (goal_counts (counting_of k) c.args.number (goal_of c.args.bank.now c.args.goal.now))) c.from_residual-in_err-within-in-Assume.ensures.1
    (assume_over c.args.bank.now k c.args.number r c.args.goal.now e c.in_err-within-in-Assume.ensures.cause c.in-Assume.clauses c.in-Assume.goals c.in-Assume.is)

pub returns-in_err-within-in-Not-clause-cause : goal.returns-in_err-within-in-Not-clause-cause
returns-in_err-within-in-Not-clause-cause c =
    let k = c.args.tally.now.look in
    let r = c.args.tally.now.room in
    let e = c.in_err-within-in-Not.field-0.0 in
    passed_up c.from_residual-in_err-within-in-Not.result e (IsOver k r (goal_counts (counting_of k) c.args.number (goal_of c.args.bank.now c.args.goal.now))) c.from_residual-in_err-within-in-Not.ensures.1
    (not_over c.args.bank.now k c.args.number r c.args.goal.now e c.in_err-within-in-Not.ensures.cause c.in-Not.goals c.in-Not.is)
