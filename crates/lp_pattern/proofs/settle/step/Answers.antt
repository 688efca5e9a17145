use Rattle.lp_term.proofs.Walking.{on_ok}
use Rattle.std.proofs.Common.{subst as transport, sym, reverse, length}
use Rattle.lp_pattern.specs.Settling.{AreEnough}
use Rattle.std.proofs.Common.{◌<◌, ◌++◌, ◌∷◌, []}
use Rattle.lp_pattern.specs.declared.settle.Task.{Task}
use Rattle.lp_pattern.specs.inner.Falling.{tasks_left}
use Rattle.lp_pattern.proofs.TasksFall.{abstract_done, apply_done}
use Rattle.lp_pattern.proofs.settle.step.Goals as goal

pub abstracted-requires : goal.abstracted-requires
abstracted-requires c = (rw c.in-Abstract.is at c.requires).0

pub applied-requires : goal.applied-requires
applied-requires c = (rw c.in-Apply.is at c.requires).0

pub returns-in-Visit-clause-enough : goal.returns-in-Visit-clause-enough
returns-in-Visit-clause-enough c = on_ok c.visit.result _ _ (λ f. f (rw c.in-Visit.is at c.requires)) c.visit.ensures.enough

pub returns-in_ok-abstracted-in-Abstract-clause-enough : goal.returns-in_ok-abstracted-in-Abstract-clause-enough
returns-in_ok-abstracted-in-Abstract-clause-enough c =
    let h = (rw c.in-Abstract.is at c.requires).1 in
    transport (λ t. AreEnough (reverse t.items) (length c.abstracted.new.work.made.items)) (sym c.abstracted.ensures.tasks)
    (transport (AreEnough (reverse c.args.work.now.tasks.items)) (sym c.in_ok-abstracted-in-Abstract.ensures.count) h)

pub returns-in_ok-applied-in-Apply-clause-enough : goal.returns-in_ok-applied-in-Apply-clause-enough
returns-in_ok-applied-in-Apply-clause-enough c =
    let h = (rw c.in-Apply.is at c.requires).1 in
    transport (λ t. AreEnough (reverse t.items) (length c.applied.new.work.made.items)) (sym c.applied.ensures.tasks)
    (transport (AreEnough (reverse c.args.work.now.tasks.items)) (sym c.in_ok-applied-in-Apply.ensures.count) h)

pub returns-in-Visit-clause-falls : goal.returns-in-Visit-clause-falls
returns-in-Visit-clause-falls c =
    on_ok c.visit.result _ _ (λ f. transport (λ t. tasks_left c.visit.new.work.tasks.items < tasks_left (c.args.work.now.tasks.items ++ t ∷ [])) (sym c.in-Visit.is) f) c.visit.ensures.falls

pub returns-in_ok-abstracted-in-Abstract-clause-falls : goal.returns-in_ok-abstracted-in-Abstract-clause-falls
returns-in_ok-abstracted-in-Abstract-clause-falls c =
    let ts = c.args.work.now.tasks.items in
    transport (λ t. tasks_left c.abstracted.new.work.tasks.items < tasks_left (ts ++ t ∷ [])) (sym c.in-Abstract.is)
    (transport (λ w. tasks_left w.items < tasks_left (ts ++ Task.Abstract c.in-Abstract.old c.in-Abstract.body ∷ [])) (sym c.abstracted.ensures.tasks) (abstract_done ts c.in-Abstract.old c.in-Abstract.body))

pub returns-in_ok-applied-in-Apply-clause-falls : goal.returns-in_ok-applied-in-Apply-clause-falls
returns-in_ok-applied-in-Apply-clause-falls c =
    let ts = c.args.work.now.tasks.items in
    transport (λ t. tasks_left c.applied.new.work.tasks.items < tasks_left (ts ++ t ∷ [])) (sym c.in-Apply.is)
    (transport (λ w. tasks_left w.items < tasks_left (ts ++ Task.Apply c.in-Apply.application ∷ [])) (sym c.applied.ensures.tasks) (apply_done ts c.in-Apply.application))
