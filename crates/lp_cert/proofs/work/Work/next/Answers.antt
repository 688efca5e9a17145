use Rattle.std.proofs.Common.{refl, arith, [], ap, ◌∙◌, subst}
use Rattle.lp_cert.specs.declared.work.Task.TheVariants as task
use Rattle.lp_cert.proofs.Comparisons.{nothing}
use Rattle.lp_cert.proofs.Stepping.{task_popped, eigen_left, assumed_left, nothing_ends}
use Rattle.lp_lemmas.proofs.Elements.{All_popped}
use Rattle.lp_cert.proofs.Judged.{all_popped, closed_popped, rest_assumed, rest_at, rest_eigen}
use Rattle.lp_cert.specs.Same.{terms_in, types_in}
use Rattle.lp_cert.specs.inner.Left.{jobs_of}
use Rattle.lp_cert.specs.inner.Turned.{IsReady, IsTaskReady, rest_of}
use Rattle.lp_cert.proofs.work.Work.next.Goals as goal

pub tasks-init : goal.tasks-init
tasks-init c = record { known = refl; left = λ b ns h. h; theory = refl; ready = λ b w. w; rest = λ b. refl }

pub tasks-preserved-in-LeaveEigen : goal.tasks-preserved-in-LeaveEigen
tasks-preserved-in-LeaveEigen c = record {
  known = c.tasks.invariant.known;
  left = λ b ns h.
      c.tasks.invariant.left b ns (eigen_left b c.tasks.self c.pop.new.self.items c.in-Some.task c.pop-left.new.self.items _ ns c.in-LeaveEigen.is c.in-Some.ensures.items (omega (arith, c.tasks.self.eigens.ok)) c.pop-left.ensures.rest h);
  theory = c.tasks.invariant.theory;
  ready = λ b w.
      let r = c.tasks.invariant.ready b w in
      let q = All_popped (IsTaskReady b) c.tasks.self.tasks.items c.pop.new.self.items c.in-Some.task c.in-Some.ensures.items r.tasks in
      record { settled = record { eigens = closed_popped b c.tasks.self.eigens.items c.pop-left.new.self.items _ (omega (arith, c.tasks.self.eigens.ok)) c.pop-left.ensures.rest r.settled.eigens; constants = r.settled.constants }; clauses = r.clauses; assumed = r.assumed; tasks = q.0 };
  rest = λ b. c.tasks.invariant.rest b ∙ rest_eigen b c.tasks.self c.pop.new.self.items c.in-Some.task c.pop-left.new.self.items _ c.in-LeaveEigen.is c.in-Some.ensures.items (omega (arith, c.tasks.self.eigens.ok)) c.pop-left.ensures.rest;
}

pub tasks-preserved : goal.tasks-preserved
tasks-preserved c = record {
  known = c.tasks.invariant.known;
  left = λ b ns h.
      c.tasks.invariant.left b ns (assumed_left b c.tasks.self c.pop.new.self.items c.in-Some.task c.pop-left-in-LeaveAssumed.new.self.items _ ns c.in-LeaveAssumed.is c.in-Some.ensures.items (omega (arith, c.tasks.self.assumed.ok)) c.pop-left-in-LeaveAssumed.ensures.rest h);
  theory = c.tasks.invariant.theory;
  ready = λ b w.
      let r = c.tasks.invariant.ready b w in
      let q = All_popped (IsTaskReady b) c.tasks.self.tasks.items c.pop.new.self.items c.in-Some.task c.in-Some.ensures.items r.tasks in
      record { settled = record { eigens = r.settled.eigens; constants = r.settled.constants }; clauses = r.clauses; assumed = all_popped (IsReady b) c.tasks.self.assumed.items c.pop-left-in-LeaveAssumed.new.self.items _ c.pop-left-in-LeaveAssumed.ensures.rest r.assumed; tasks = q.0 };
  rest = λ b. c.tasks.invariant.rest b ∙ rest_assumed b c.tasks.self c.pop.new.self.items c.in-Some.task c.pop-left-in-LeaveAssumed.new.self.items _ c.in-LeaveAssumed.is c.in-Some.ensures.items (omega (arith, c.tasks.self.assumed.ok)) c.pop-left-in-LeaveAssumed.ensures.rest;
}

pub returns-in-Prove-clause-some : goal.returns-in-Prove-clause-some
returns-in-Prove-clause-some c = λ b ns h. c.tasks.invariant.left b ns (task_popped b c.tasks.self c.pop.new.self.items c.in-Some.task (task.Prove c.in-Prove.goal) ns c.in-Prove.is c.in-Some.ensures.items h)

pub returns-in-Focus-clause-some : goal.returns-in-Focus-clause-some
returns-in-Focus-clause-some c = λ b ns h. c.tasks.invariant.left b ns (task_popped b c.tasks.self c.pop.new.self.items c.in-Some.task (task.Focus c.in-Focus.clause c.in-Focus.atom) ns c.in-Focus.is c.in-Some.ensures.items h)

pub returns-clause-none : goal.returns-clause-none
returns-clause-none c = λ e b. c.tasks.invariant.left b [] (nothing_ends b c.tasks.self (nothing c.tasks.self.tasks.items (omega (arith, c.in_default.ensures.cases.0, c.tasks.self.tasks.ok))))

pub returns-in-Prove-clause-ready : goal.returns-in-Prove-clause-ready
returns-in-Prove-clause-ready c = λ b w.
    let r = c.tasks.invariant.ready b w in
    let q = All_popped (IsTaskReady b) c.tasks.self.tasks.items c.pop.new.self.items c.in-Some.task c.in-Some.ensures.items r.tasks in
    (record { settled = record { eigens = r.settled.eigens; constants = r.settled.constants }; clauses = r.clauses; assumed = r.assumed; tasks = q.0 }, subst (IsTaskReady b) c.in-Prove.is q.1)

pub returns-in-Prove-clause-rest : goal.returns-in-Prove-clause-rest
returns-in-Prove-clause-rest c = (c.tasks.invariant.theory, λ b. c.tasks.invariant.rest b ∙ rest_at b c.tasks.self c.pop.new.self.items c.in-Some.task (task.Prove c.in-Prove.goal) c.in-Prove.is c.in-Some.ensures.items)

pub returns-in-Focus-clause-ready : goal.returns-in-Focus-clause-ready
returns-in-Focus-clause-ready c = λ b w.
    let r = c.tasks.invariant.ready b w in
    let q = All_popped (IsTaskReady b) c.tasks.self.tasks.items c.pop.new.self.items c.in-Some.task c.in-Some.ensures.items r.tasks in
    (record { settled = record { eigens = r.settled.eigens; constants = r.settled.constants }; clauses = r.clauses; assumed = r.assumed; tasks = q.0 }, subst (IsTaskReady b) c.in-Focus.is q.1)

pub returns-in-Focus-clause-rest : goal.returns-in-Focus-clause-rest
returns-in-Focus-clause-rest c = (c.tasks.invariant.theory, λ b. c.tasks.invariant.rest b ∙ rest_at b c.tasks.self c.pop.new.self.items c.in-Some.task (task.Focus c.in-Focus.clause c.in-Focus.atom) c.in-Focus.is c.in-Some.ensures.items)

pub returns-clause-over : goal.returns-clause-over
returns-clause-over c = λ e b. ap (λ x. x.jobs) (c.tasks.invariant.rest b) ∙ ap (λ ts. (rest_of (types_in b c.tasks.self.eigens.items) (terms_in b c.tasks.self.assumed.items) (jobs_of b ts)).jobs) (nothing c.tasks.self.tasks.items (omega (arith, c.in_default.ensures.cases.0, c.tasks.self.tasks.ok)))
