use Rattle.std.proofs.Common.{[], ◌∷◌, ap, refl, arith}
use Rattle.lp_lemmas.proofs.Results.{passed_up}
use Rattle.lp_gen.specs.inner.Variables.{IsFull}
use Rattle.lp_gen.specs.inner.Planning.{todos, due_goals}
use Rattle.lp_gen.proofs.PlanDone.{atom_done, cut_done, either_done, some_done, all_done, not_done, assume_done}
use Rattle.lp_gen.proofs.Leveling.{atom_leveled, cut_leveled, either_leveled, some_leveled, all_leveled, assume_leveled, not_leveled, atom_spreads, either_spreads, some_spreads, all_spreads, assume_spreads, not_spreads, full_under, some_one, all_one}
use Rattle.lp_gen.specs.declared.plan.Step.TheVariants as on
use Rattle.lp_gen.proofs.plan.Plan.goal.Goals as goal

pub returns-in_ok-put-in-Atom-clause-kept : goal.returns-in_ok-put-in-Atom-clause-kept
returns-in_ok-put-in-Atom-clause-kept c =
    atom_done c.args.self.now.due.items c.args.self.now.assumptions.items c.args.walk.now.level c.put.new.self.level c.args.walk.now.steps.items c.put.new.self.steps.items
    (todos c.args.walk.now.tasks.items) (todos c.put.new.self.tasks.items) c.args.goal.now c.in-Atom.term c.in-Atom.is c.in_ok-put-in-Atom.ensures.level c.in_ok-put-in-Atom.ensures.steps
    (ap (λ v. todos v.items) c.in_ok-put-in-Atom.ensures.tasks)

pub returns-in_ok-put-in-Cut-clause-kept : goal.returns-in_ok-put-in-Cut-clause-kept
returns-in_ok-put-in-Cut-clause-kept c =
    cut_done c.args.self.now.due.items c.args.self.now.assumptions.items c.args.walk.now.level c.put-in-Cut.new.self.level c.args.walk.now.steps.items c.put-in-Cut.new.self.steps.items
    (todos c.args.walk.now.tasks.items) (todos c.put-in-Cut.new.self.tasks.items) c.args.goal.now c.in-Cut.is c.in_ok-put-in-Cut.ensures.level c.in_ok-put-in-Cut.ensures.steps
    (ap (λ v. todos v.items) c.in_ok-put-in-Cut.ensures.tasks)

pub returns-in_ok-put_both-in-Either-clause-kept : goal.returns-in_ok-put_both-in-Either-clause-kept
returns-in_ok-put_both-in-Either-clause-kept c =
    either_done c.args.self.now.due.items c.args.self.now.assumptions.items c.args.walk.now.level c.put_both.new.self.level c.args.walk.now.steps.items c.put_both.new.self.steps.items
    (todos c.args.walk.now.tasks.items) (todos c.put_both.new.self.tasks.items) c.args.goal.now c.in-Either.left c.in-Either.right c.as_slice.result.now c.as_slice-in-Either.result.now c.in-Either.is
    c.as_slice.ensures.value c.as_slice-in-Either.ensures.value c.in_ok-put_both-in-Either.ensures.level c.in_ok-put_both-in-Either.ensures.steps c.in_ok-put_both-in-Either.ensures.todo

pub returns-in_ok-put_some-in-Some-clause-kept : goal.returns-in_ok-put_some-in-Some-clause-kept
returns-in_ok-put_some-in-Some-clause-kept c =
    some_done c.args.self.now.due.items c.args.self.now.assumptions.items c.args.walk.now.level c.put_some.new.self.level c.args.walk.now.steps.items c.put_some.new.self.steps.items
    (todos c.args.walk.now.tasks.items) (todos c.put_some.new.self.tasks.items) c.args.goal.now c.in-Some.of c.in-Some.goals c.as_slice-in-Some.result.now c.in-Some.is c.as_slice-in-Some.ensures.value
    (omega (arith, c.in_ok-put_some-in-Some.ensures.level)) c.in_ok-put_some-in-Some.ensures.steps c.in_ok-put_some-in-Some.ensures.todo

pub returns-in_ok-put_all-in-All-clause-kept : goal.returns-in_ok-put_all-in-All-clause-kept
returns-in_ok-put_all-in-All-clause-kept c =
    all_done c.args.self.now.due.items c.args.self.now.assumptions.items c.args.walk.now.level c.put_all.new.self.level c.args.walk.now.steps.items c.put_all.new.self.steps.items
    (todos c.args.walk.now.tasks.items) (todos c.put_all.new.self.tasks.items) c.args.goal.now c.in-All.of c.in-All.goals c.as_slice-in-All.result.now c.in-All.is c.as_slice-in-All.ensures.value
    (omega (arith, c.in_ok-put_all-in-All.ensures.level)) c.in_ok-put_all-in-All.ensures.steps c.in_ok-put_all-in-All.ensures.todo

pub returns-in_ok-put_block-in-Assume-clause-kept : goal.returns-in_ok-put_block-in-Assume-clause-kept
returns-in_ok-put_block-in-Assume-clause-kept c =
    assume_done c.args.self.now.due.items c.args.self.now.assumptions.items c.args.walk.now.level c.put_block.new.self.level c.args.walk.now.steps.items c.put_block.new.self.steps.items
    (todos c.args.walk.now.tasks.items) (todos c.put_block.new.self.tasks.items) c.args.goal.now c.assume.new.self.due.items c.assume.new.self.assumptions.items c.in_ok-number-in-Assume.number
    c.in-Assume.clauses c.in-Assume.goals c.as_slice-in-Assume.result.now c.as_slice-in-Assume-2.result.now c.in-Assume.is c.as_slice-in-Assume.ensures.value c.as_slice-in-Assume-2.ensures.value
    c.in_ok-number-in-Assume.ensures.assumed c.in_ok-put_block-in-Assume.ensures.level c.in_ok-put_block-in-Assume.ensures.steps c.in_ok-put_block-in-Assume.ensures.todo

pub returns-in_ok-put_block-in-Not-clause-kept : goal.returns-in_ok-put_block-in-Not-clause-kept
returns-in_ok-put_block-in-Not-clause-kept c =
    not_done c.args.self.now.due.items c.args.self.now.assumptions.items c.args.walk.now.level c.put_block-in-Not.new.self.level c.args.walk.now.steps.items c.put_block-in-Not.new.self.steps.items
    (todos c.args.walk.now.tasks.items) (todos c.put_block-in-Not.new.self.tasks.items) c.args.goal.now c.in-Not.goals c.as_slice-in-Not.result.now c.in-Not.is c.as_slice-in-Not.ensures.value
    c.in_ok-put_block-in-Not.ensures.level c.in_ok-put_block-in-Not.ensures.steps c.in_ok-put_block-in-Not.ensures.todo

pub returns-in_ok-put-in-Atom-clause-leveled : goal.returns-in_ok-put-in-Atom-clause-leveled
returns-in_ok-put-in-Atom-clause-leveled c =
    atom_leveled c.args.bank.now c.args.walk.now.base c.args.walk.now.level c.put.new.self.level c.args.goal.now c.in-Atom.term (todos c.args.walk.now.tasks.items) (todos c.put.new.self.tasks.items) c.in-Atom.is c.in_ok-put-in-Atom.ensures.level (ap (λ v. todos v.items) c.in_ok-put-in-Atom.ensures.tasks)

pub returns-in_ok-put-in-Atom-clause-dues : goal.returns-in_ok-put-in-Atom-clause-dues
returns-in_ok-put-in-Atom-clause-dues c =
    atom_spreads c.args.bank.now c.args.walk.now.level c.args.self.now.due.items c.args.self.now.due.items c.args.goal.now (todos c.args.walk.now.tasks.items) (todos c.put.new.self.tasks.items) refl (ap (λ v. todos v.items) c.in_ok-put-in-Atom.ensures.tasks)

pub returns-in_ok-put-in-Cut-clause-leveled : goal.returns-in_ok-put-in-Cut-clause-leveled
returns-in_ok-put-in-Cut-clause-leveled c =
    cut_leveled c.args.bank.now c.args.walk.now.base c.args.walk.now.level c.put-in-Cut.new.self.level c.args.goal.now (todos c.args.walk.now.tasks.items) (todos c.put-in-Cut.new.self.tasks.items) c.in-Cut.is c.in_ok-put-in-Cut.ensures.level (ap (λ v. todos v.items) c.in_ok-put-in-Cut.ensures.tasks)

pub returns-in_ok-put-in-Cut-clause-dues : goal.returns-in_ok-put-in-Cut-clause-dues
returns-in_ok-put-in-Cut-clause-dues c =
    atom_spreads c.args.bank.now c.args.walk.now.level c.args.self.now.due.items c.args.self.now.due.items c.args.goal.now (todos c.args.walk.now.tasks.items) (todos c.put-in-Cut.new.self.tasks.items) refl (ap (λ v. todos v.items) c.in_ok-put-in-Cut.ensures.tasks)

pub returns-in_ok-put_both-in-Either-clause-leveled : goal.returns-in_ok-put_both-in-Either-clause-leveled
returns-in_ok-put_both-in-Either-clause-leveled c =
    either_leveled c.args.bank.now c.args.walk.now.base c.args.walk.now.level c.put_both.new.self.level c.args.goal.now c.in-Either.left c.in-Either.right c.as_slice.result.now c.as_slice-in-Either.result.now on.Turn on.EndEither (todos c.args.walk.now.tasks.items) (todos c.put_both.new.self.tasks.items) c.in-Either.is c.as_slice.ensures.value c.as_slice-in-Either.ensures.value c.in_ok-put_both-in-Either.ensures.level c.in_ok-put_both-in-Either.ensures.todo

pub returns-in_ok-put_both-in-Either-clause-dues : goal.returns-in_ok-put_both-in-Either-clause-dues
returns-in_ok-put_both-in-Either-clause-dues c =
    either_spreads c.args.bank.now c.args.walk.now.level c.args.self.now.due.items c.args.self.now.due.items c.args.goal.now c.in-Either.left c.in-Either.right c.as_slice.result.now c.as_slice-in-Either.result.now on.Turn on.EndEither (todos c.args.walk.now.tasks.items) (todos c.put_both.new.self.tasks.items) refl c.in-Either.is c.as_slice.ensures.value c.as_slice-in-Either.ensures.value c.in_ok-put_both-in-Either.ensures.todo

pub returns-in_ok-put_some-in-Some-clause-leveled : goal.returns-in_ok-put_some-in-Some-clause-leveled
returns-in_ok-put_some-in-Some-clause-leveled c =
    some_leveled c.args.bank.now c.args.walk.now.base c.args.walk.now.level c.put_some.new.self.level c.args.goal.now c.in-Some.of c.in-Some.goals c.as_slice-in-Some.result.now (todos c.args.walk.now.tasks.items) (todos c.put_some.new.self.tasks.items) c.in-Some.is c.as_slice-in-Some.ensures.value c.in_ok-put_some-in-Some.ensures.near c.in_ok-put_some-in-Some.ensures.level c.in_ok-put_some-in-Some.ensures.todo

pub returns-in_ok-put_some-in-Some-clause-dues : goal.returns-in_ok-put_some-in-Some-clause-dues
returns-in_ok-put_some-in-Some-clause-dues c =
    some_spreads c.args.bank.now c.args.walk.now.level c.args.self.now.due.items c.args.self.now.due.items c.args.goal.now c.in-Some.of c.in-Some.goals c.as_slice-in-Some.result.now (todos c.args.walk.now.tasks.items) (todos c.put_some.new.self.tasks.items) refl c.in-Some.is c.as_slice-in-Some.ensures.value c.in_ok-put_some-in-Some.ensures.todo

pub returns-in_ok-put_all-in-All-clause-leveled : goal.returns-in_ok-put_all-in-All-clause-leveled
returns-in_ok-put_all-in-All-clause-leveled c =
    all_leveled c.args.bank.now c.args.walk.now.base c.args.walk.now.level c.put_all.new.self.level c.args.goal.now c.in-All.of c.in-All.goals c.as_slice-in-All.result.now on.EndAll (todos c.args.walk.now.tasks.items) (todos c.put_all.new.self.tasks.items) c.in-All.is c.as_slice-in-All.ensures.value c.in_ok-put_all-in-All.ensures.near c.in_ok-put_all-in-All.ensures.level c.in_ok-put_all-in-All.ensures.todo

pub returns-in_ok-put_all-in-All-clause-dues : goal.returns-in_ok-put_all-in-All-clause-dues
returns-in_ok-put_all-in-All-clause-dues c =
    all_spreads c.args.bank.now c.args.walk.now.level c.args.self.now.due.items c.args.self.now.due.items c.args.goal.now c.in-All.of c.in-All.goals c.as_slice-in-All.result.now on.EndAll (todos c.args.walk.now.tasks.items) (todos c.put_all.new.self.tasks.items) refl c.in-All.is c.as_slice-in-All.ensures.value c.in_ok-put_all-in-All.ensures.todo

pub returns-in_ok-put_block-in-Assume-clause-leveled : goal.returns-in_ok-put_block-in-Assume-clause-leveled
returns-in_ok-put_block-in-Assume-clause-leveled c =
    assume_leveled c.args.bank.now c.args.walk.now.base c.args.walk.now.level c.put_block.new.self.level c.args.goal.now c.in-Assume.clauses c.in-Assume.goals c.as_slice-in-Assume-2.result.now on.EndAssume (todos c.args.walk.now.tasks.items) (todos c.put_block.new.self.tasks.items) c.in-Assume.is c.as_slice-in-Assume-2.ensures.value c.in_ok-put_block-in-Assume.ensures.level c.in_ok-put_block-in-Assume.ensures.todo

pub returns-in_ok-put_block-in-Assume-clause-dues : goal.returns-in_ok-put_block-in-Assume-clause-dues
returns-in_ok-put_block-in-Assume-clause-dues c =
    assume_spreads c.args.bank.now c.args.walk.now.level c.args.self.now.due.items c.assume.new.self.due.items c.assume.new.self.due.items c.args.self.now.assumptions.items c.assume.new.self.assumptions.items c.in_ok-number-in-Assume.number c.args.goal.now c.in-Assume.clauses c.in-Assume.goals c.as_slice-in-Assume.result.now c.as_slice-in-Assume-2.result.now on.EndAssume (todos c.args.walk.now.tasks.items) (todos c.put_block.new.self.tasks.items) refl c.in-Assume.is c.as_slice-in-Assume.ensures.value c.as_slice-in-Assume-2.ensures.value c.in_ok-number-in-Assume.ensures.assumed c.in_ok-put_block-in-Assume.ensures.todo

pub returns-in_ok-put_block-in-Not-clause-leveled : goal.returns-in_ok-put_block-in-Not-clause-leveled
returns-in_ok-put_block-in-Not-clause-leveled c =
    not_leveled c.args.bank.now c.args.walk.now.base c.args.walk.now.level c.put_block-in-Not.new.self.level c.args.goal.now c.in-Not.goals c.as_slice-in-Not.result.now on.EndNot (todos c.args.walk.now.tasks.items) (todos c.put_block-in-Not.new.self.tasks.items) c.in-Not.is c.as_slice-in-Not.ensures.value c.in_ok-put_block-in-Not.ensures.level c.in_ok-put_block-in-Not.ensures.todo

pub returns-in_ok-put_block-in-Not-clause-dues : goal.returns-in_ok-put_block-in-Not-clause-dues
returns-in_ok-put_block-in-Not-clause-dues c =
    not_spreads c.args.bank.now c.args.walk.now.level c.args.self.now.due.items c.args.self.now.due.items c.args.goal.now c.in-Not.goals c.as_slice-in-Not.result.now on.EndNot (todos c.args.walk.now.tasks.items) (todos c.put_block-in-Not.new.self.tasks.items) refl c.in-Not.is c.as_slice-in-Not.ensures.value c.in_ok-put_block-in-Not.ensures.todo

pub returns-in_err-put_some-in-Some-clause-full : goal.returns-in_err-put_some-in-Some-clause-full
returns-in_err-put_some-in-Some-clause-full c =
    passed_up c.from_residual-in_err-put_some-in-Some.result c.in_err-put_some-in-Some.field-0.0
    (IsFull c.args.bank.now c.args.walk.now.base c.args.walk.now.level (due_goals (c.args.goal.now ∷ []) ∷ todos c.args.walk.now.tasks.items))
    c.from_residual-in_err-put_some-in-Some.ensures.1 (full_under c.args.bank.now c.args.walk.now.base c.args.walk.now.level c.args.goal.now (todos c.args.walk.now.tasks.items) c.in_err-put_some-in-Some.field-0.0 (some_one c.args.bank.now c.in-Some.of c.in-Some.goals c.args.goal.now c.in-Some.is) c.in_err-put_some-in-Some.ensures.full)

pub returns-in_err-put_all-in-All-clause-full : goal.returns-in_err-put_all-in-All-clause-full
returns-in_err-put_all-in-All-clause-full c =
    passed_up c.from_residual-in_err-put_all-in-All.result c.in_err-put_all-in-All.field-0.0
    (IsFull c.args.bank.now c.args.walk.now.base c.args.walk.now.level (due_goals (c.args.goal.now ∷ []) ∷ todos c.args.walk.now.tasks.items))
    c.from_residual-in_err-put_all-in-All.ensures.1 (full_under c.args.bank.now c.args.walk.now.base c.args.walk.now.level c.args.goal.now (todos c.args.walk.now.tasks.items) c.in_err-put_all-in-All.field-0.0 (all_one c.args.bank.now c.in-All.of c.in-All.goals c.args.goal.now c.in-All.is) c.in_err-put_all-in-All.ensures.full)
