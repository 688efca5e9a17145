use Rattle.std.proofs.Common.{◌≡◌, sym, subst}
use Rattle.lp_gen.specs.Steps.{constant_function}
use Rattle.lp_gen.specs.inner.Tasks.{course, act, done}
use Rattle.lp_gen.proofs.Courses.{applies_task, abstracts_task}
use Rattle.lp_gen.proofs.listing.take_up.Goals as goal

pub returns-in_ok-visit-in-Visit-clause-acts : goal.returns-in_ok-visit-in-Visit-clause-acts
returns-in_ok-visit-in-Visit-clause-acts c =
    let b = c.args.tables.bank.now in
    let K = constant_function b c.args.tables.constants.now in
    subst (λ t. done K b c.visit.new.work.items (course b c.visit.new.environment c.visit.new.lists) ≡ done K b c.args.work.now.items (act K b t (course b c.args.environment.now c.args.lists.now)))
    (sym c.in-Visit.is) c.in_ok-visit-in-Visit.ensures.acts

pub returns-in_ok-visit_args-in-Args-clause-acts : goal.returns-in_ok-visit_args-in-Args-clause-acts
returns-in_ok-visit_args-in-Args-clause-acts c =
    let b = c.args.tables.bank.now in
    let K = constant_function b c.args.tables.constants.now in
    let w = course b c.args.environment.now c.args.lists.now in
    subst (λ t. done K b c.visit_args.new.work.items w ≡ done K b c.args.work.now.items (act K b t w)) (sym c.in-Args.is) (c.in_ok-visit_args-in-Args.ensures.acts K w)

pub returns-in_ok-push-in-Apply-clause-acts : goal.returns-in_ok-push-in-Apply-clause-acts
returns-in_ok-push-in-Apply-clause-acts c =
    let b = c.args.tables.bank.now in
    let K = constant_function b c.args.tables.constants.now in
    subst (λ t. done K b c.args.work.now.items (course b c.args.environment.now (record { bound = c.args.lists.now.bound; steps = c.push.new.self })) ≡ done K b c.args.work.now.items
    (act K b t (course b c.args.environment.now c.args.lists.now))) (sym c.in-Apply.is)
    (applies_task K b c.args.work.now.items c.args.environment.now c.args.lists.now c.push.new.self c.in-Apply.count c.in_ok-push-in-Apply.ensures.items)

pub returns-in_ok-push-in-Abstract-clause-acts : goal.returns-in_ok-push-in-Abstract-clause-acts
returns-in_ok-push-in-Abstract-clause-acts c =
    let b = c.args.tables.bank.now in
    let K = constant_function b c.args.tables.constants.now in
    subst (λ t. done K b c.args.work.now.items (course b c.args.environment.now (record { bound = c.leave.new.bound; steps = c.push-in-Abstract.new.self })) ≡ done K b c.args.work.now.items
    (act K b t (course b c.args.environment.now c.args.lists.now))) (sym c.in-Abstract.is)
    (abstracts_task K b c.args.work.now.items c.args.environment.now c.args.lists.now c.leave.new.bound c.push-in-Abstract.new.self c.in-Abstract.bound c.leave.ensures
    c.in_ok-push-in-Abstract.ensures.items)
