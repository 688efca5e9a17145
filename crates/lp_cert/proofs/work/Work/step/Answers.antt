use Rattle.lp_cert.specs.declared.work.Task.TheVariants as task
use Rattle.lp_cert.proofs.Proving.{step_goes}
use Rattle.std.proofs.Common.{refl, ap, ◌∙◌, ◌∷◌}
use Rattle.lp_term.specs.Nodes.{tree}
use Rattle.lp_cert.specs.Same.{terms_in, types_in}
use Rattle.lp_cert.specs.Written.{node_of}
use Rattle.lp_cert.specs.inner.Left.{ground_in, job_of, jobs_of}
use Rattle.lp_cert.specs.inner.Turned.{Always}
use Rattle.lp_cert.proofs.Judged.{assumed_not_next, eigen_not_next, focused_by, nothing_steps, stepped_by}
use Rattle.lp_cert.proofs.work.Work.step.Goals as goal

pub returns-in-Prove-clause-goes : goal.returns-in-Prove-clause-goes
returns-in-Prove-clause-goes c = step_goes c.prove.result c.prove.new.bank c.args.self.now c.next.new.self c.prove.new.self c.in-Some.task (task.Prove c.in-Prove.goal) c.args.node.now c.in-Prove.is c.in-Some.ensures.some c.prove.ensures.goes

pub returns-in-Focus-clause-goes : goal.returns-in-Focus-clause-goes
returns-in-Focus-clause-goes c = step_goes c.focus.result c.focus.new.bank c.args.self.now c.next.new.self c.focus.new.self c.in-Some.task (task.Focus c.in-Focus.clause c.in-Focus.atom) c.args.node.now c.in-Focus.is c.in-Some.ensures.some c.focus.ensures.goes

pub returns-in_default-clause-stepped : goal.returns-in_default-clause-stepped
returns-in_default-clause-stepped c = λ w i b h k. nothing_steps b c.args.self.now (ground_in b c.args.self.now.theory) (Always (Unit {0})) (node_of b c.args.node.now) (c.in_default.ensures.over refl b) k

pub returns-in-Prove-clause-stepped : goal.returns-in-Prove-clause-stepped
returns-in-Prove-clause-stepped c = stepped_by c.prove.result c.args.bank.now c.prove.new.bank c.args.self.now c.next.new.self c.prove.new.self c.in-Some.task c.in-Prove.goal c.args.node.now c.in-Prove.is c.in-Some.ensures.rest c.in-Some.ensures.ready c.prove.ensures.turned

pub returns-in-Focus-clause-stepped : goal.returns-in-Focus-clause-stepped
returns-in-Focus-clause-stepped c = focused_by c.focus.result c.args.bank.now c.focus.new.bank c.args.self.now c.next.new.self c.focus.new.self c.in-Some.task c.in-Focus.clause c.in-Focus.atom c.args.node.now c.in-Focus.is c.in-Some.ensures.rest c.in-Some.ensures.ready c.focus.ensures.turned

pub returns-in-LeaveEigen-clause-stepped : goal.returns-in-LeaveEigen-clause-stepped
returns-in-LeaveEigen-clause-stepped c = λ w i b h k.
    absurd (eigen_not_next (types_in b c.args.self.now.eigens.items) (terms_in b c.args.self.now.assumed.items)
    (jobs_of b c.args.self.now.tasks.items) (jobs_of b c.next.new.self.tasks.items)
    (ap (λ x. x.jobs) (c.in-Some.ensures.rest.1 b) ∙ ap (λ x. job_of b x ∷ jobs_of b c.next.new.self.tasks.items) c.in-LeaveEigen.is))

pub returns-in-LeaveAssumed-clause-stepped : goal.returns-in-LeaveAssumed-clause-stepped
returns-in-LeaveAssumed-clause-stepped c = λ w i b h k.
    absurd (assumed_not_next (types_in b c.args.self.now.eigens.items) (terms_in b c.args.self.now.assumed.items)
    (jobs_of b c.args.self.now.tasks.items) (jobs_of b c.next.new.self.tasks.items)
    (ap (λ x. x.jobs) (c.in-Some.ensures.rest.1 b) ∙ ap (λ x. job_of b x ∷ jobs_of b c.next.new.self.tasks.items) c.in-LeaveAssumed.is))
