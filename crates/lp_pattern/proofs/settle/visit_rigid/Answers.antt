use Rattle.std.proofs.Common.{[], ◌∷◌, ◌++◌, sym, subst as transport}
use Rattle.lp_term.proofs.Walking.{on_ok}
use Rattle.lp_pattern.specs.declared.settle.Task.TheVariants.{Visit}
use Rattle.lp_pattern.specs.Settling.{Moves}
use Rattle.lp_pattern.proofs.SettleMoves.{rigid_moves}
use Rattle.std.proofs.Common.{ap, length, reverse}
use Rattle.lp_pattern.specs.Settling.{AreEnough}
use Rattle.lp_pattern.proofs.Enough.{pushed_enough}
use Rattle.std.proofs.Common.{arith}
use Rattle.lp_pattern.proofs.TasksFall.{parts_left}
use Rattle.lp_pattern.proofs.settle.visit_rigid.Goals as goal

pub returns-clause-moves : goal.returns-clause-moves
returns-clause-moves c =
    on_ok c.push_application.result _ _
    (λ p.
    transport
    (Moves c.args.bank.now c.head_in.new.bank c.args.bindings.now c.args.side.now.eigens.items (c.args.work.now.tasks.items ++ Visit c.args.looked.now.whole c.args.opened ∷ []) c.args.work.now.made.items
    c.push_application.new.work.tasks.items)
    (sym c.push_application.ensures.made)
    (rigid_moves c.args.bank.now c.head_in.new.bank c.args.bindings.now c.args.side.now.eigens.items c.args.opened c.args.looked.now c.in_ok-head.head c.args.work.now.tasks.items c.push_application.new.work.tasks.items c.args.work.now.made.items
    c.in_ok-head.ensures.kept c.requires.looked c.requires.head c.in_ok-head.ensures.within c.in_ok-head.ensures.head p))
    c.push_application.ensures.pushed

pub returns-clause-enough : goal.returns-clause-enough
returns-clause-enough c =
    on_ok c.push_application.result _ _
    (λ p h.
    transport (AreEnough (reverse c.push_application.new.work.tasks.items)) (sym (ap length c.push_application.ensures.made))
    (pushed_enough c.args.looked.now c.in_ok-head.head c.args.opened c.args.work.now.tasks.items c.push_application.new.work.tasks.items (length c.args.work.now.made.items) p h))
    c.push_application.ensures.pushed

pub returns-clause-falls : goal.returns-clause-falls
returns-clause-falls c =
    on_ok c.push_application.result _ _
    (λ p.
    parts_left c.args.looked.now c.in_ok-head.head c.args.opened c.args.opened c.args.work.now.tasks.items c.push_application.new.work.tasks.items c.args.looked.now.whole p
    (omega (arith, c.args.work.now.tasks.ok, c.args.work.now.tasks.small)) (omega (arith, c.args.looked.now.arguments.ok, c.args.looked.now.arguments.small)))
    c.push_application.ensures.pushed
