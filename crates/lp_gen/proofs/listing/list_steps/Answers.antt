use Rattle.std.proofs.Common.{◌∙◌, sym, arith}
use Rattle.std.proofs.lemmas.List.{nil_from_length}
use Rattle.lp_gen.specs.declared.listing.Task.TheVariants as on
use Rattle.lp_gen.specs.Steps.{constant_function}
use Rattle.lp_gen.specs.inner.Tasks.{course}
use Rattle.lp_gen.proofs.Courses.{done_popped, task_begins, tasks_done}
use Rattle.lp_gen.proofs.listing.list_steps.Goals as goal

pub terms-init : goal.terms-init
terms-init c =
    let b = c.args.tables.bank.now in
    task_begins (constant_function b c.args.tables.constants.now) b c.args.environment.now (record { bound = c.new.result; steps = c.new-2.result })
    c.new-work.result.items c.push.new.self.items (on.Visit c.args.term c.args.of) c.new.ensures.items
    c.new-2.ensures.items c.new-work.ensures.items c.in_ok-push.ensures.items

pub terms-preserved : goal.terms-preserved
terms-preserved c =
    let b = c.args.tables.bank.now in
    let K = constant_function b c.args.tables.constants.now in
    c.in_ok-take_up.ensures.acts ∙ sym (done_popped K b c.terms.work.items c.pop.new.self.items c.in-Some.task (course b c.terms.environment c.terms.lists) c.in-Some.ensures.items) ∙ c.terms.invariant

pub returns : goal.returns
returns c =
    tasks_done (constant_function c.args.tables.bank.now c.args.tables.constants.now) c.args.tables.bank.now c.args.environment.now c.terms.environment c.terms.lists c.terms.work.items c.args.term
    c.args.of (nil_from_length c.terms.work.items (omega (arith, c.in_default.ensures.cases.0, c.terms.work.ok))) c.terms.invariant
