use Rattle.lp_plain.proofs.Served.{put_more, put_serves}
use Rattle.std.proofs.Common.{subst}
use Rattle.lp_plain.specs.HeadLooks.{LooksAt}
use Rattle.lp_plain.proofs.Evaluations.{deep_taken, visit_taken}
use Rattle.lp_plain.proofs.arithmetic.visit.Goals as goal

pub returns-in_default-clause-takes : goal.returns-in_default-clause-takes
returns-in_default-clause-takes c =
    let m = c.args.machine.now in
    let n = c.head_normal.new.machine in
    deep_taken m n c.args.term (subst (LooksAt m n c.args.term) c.in_default.is c.in_ok-form.ensures.looks) c.args.tasks.now.items
    c.args.tasks.now.items c.args.values.now.items c.args.values.now.items

pub returns-clause-takes : goal.returns-clause-takes
returns-clause-takes c =
    let m = c.args.machine.now in
    let n = c.head_normal.new.machine in
    let e = c.in_ok-expression.ensures in
    visit_taken m n c.in_ok-form.ensures.bank c.args.term c.in-Some.form (subst (LooksAt m n c.args.term) c.in-Some.is c.in_ok-form.ensures.looks)
    c.in_ok-expression.expression e.is e.stands c.in_ok-end.end
    c.args.tasks.now.items c.put_expression.new.tasks.items c.args.values.now.items c.put_expression.new.values.items c.in_ok-end.ensures

pub returns-in_default-clause-served : goal.returns-in_default-clause-served
returns-in_default-clause-served c = λ n s. absurd (cc)

pub returns-in_default-clause-more : goal.returns-in_default-clause-more
returns-in_default-clause-more c = λ n. absurd (cc)

pub returns-clause-served : goal.returns-clause-served
returns-clause-served c =
    put_serves c.in_ok-expression.expression c.in_ok-end.end c.args.tasks.now.items c.put_expression.new.tasks.items c.args.values.now.items c.put_expression.new.values.items c.in_ok-end.ensures

pub returns-clause-more : goal.returns-clause-more
returns-clause-more c =
    put_more c.in_ok-expression.expression c.in_ok-end.end c.args.tasks.now.items c.put_expression.new.tasks.items c.args.values.now.items c.put_expression.new.values.items c.in_ok-end.ensures
