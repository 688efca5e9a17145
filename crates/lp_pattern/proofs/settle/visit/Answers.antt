use Rattle.lp_pattern.proofs.SettleMoves.{visit_moves}
use Rattle.lp_term.proofs.Walking.{on_ok}
use Rattle.lp_pattern.specs.Refusing.{IsOfTerm}
use Rattle.lp_pattern.proofs.GivenUp.{settle_far, settle_seen}
use Rattle.lp_pattern.proofs.Results.{err_and, if_err}
use Rattle.lp_pattern.proofs.Grounds.{ground_moves}
use Rattle.std.proofs.Common.{reverse}
use Rattle.lp_pattern.proofs.Enough.{made_enough}
use Rattle.lp_pattern.specs.inner.Falling.{tasks_left}
use Rattle.lp_pattern.proofs.TasksFall.{visit_as, visit_done}
use Rattle.lp_pattern.proofs.settle.visit.Goals as goal

pub returns-in-Some-clause-moves : goal.returns-in-Some-clause-moves
returns-in-Some-clause-moves c =
    ground_moves c.args.bank.now c.args.bindings.now c.args.side.now.eigens.items c.args.term c.args.opened c.args.work.now.tasks.items c.args.work.now.made.items c.push.new.self.items c.in-Some.ensures.0 c.in_ok-push.ensures.items

pub returns-clause-moves : goal.returns-clause-moves
returns-clause-moves c =
    on_ok c.visit_seen.result _ _
    (λ g.
    visit_moves c.args.bank.now c.look.new.bank c.visit_seen.new.bank c.args.bindings.now c.args.side.now.eigens.items c.args.opened 1000000 c.args.term c.in_ok-looked.looked c.args.work.now.tasks.items c.visit_seen.new.work.tasks.items
    c.args.work.now.made.items c.visit_seen.new.work.made.items c.in_ok-looked.ensures.kept c.in_ok-looked.ensures.looked c.in_ok-looked.ensures.reached g)
    c.visit_seen.ensures.moves

pub returns-in_err-looked-clause-refused : goal.returns-in_err-looked-clause-refused
returns-in_err-looked-clause-refused c =
    err_and c.from_residual-in_err-looked.result (λ e. IsOfTerm c.in_err-looked.field-0.0 e) _ c.from_residual-in_err-looked.ensures.1
    (λ y o r i h m x. settle_far c.args.bank.now r c.args.side.now.eigens.items c.args.term c.args.opened c.args.work.now.tasks.items c.args.work.now.made.items m x c.in_err-looked.field-0.0 y o (c.in_err-looked.ensures.refused r i))

pub returns-clause-refused : goal.returns-clause-refused
returns-clause-refused c =
    if_err c.visit_seen.result _ _
    (λ e f. settle_seen c.args.bank.now c.look.new.bank c.args.bindings.now c.args.side.now.eigens.items c.args.term c.in_ok-looked.looked c.args.opened c.args.work.now.tasks.items c.args.work.now.made.items e c.in_ok-looked.ensures.kept
    c.in_ok-looked.ensures.looked c.in_ok-looked.ensures.reached f)
    c.visit_seen.ensures.refused

pub returns-in-Some-clause-enough : goal.returns-in-Some-clause-enough
returns-in-Some-clause-enough c = λ h. made_enough (reverse c.args.work.now.tasks.items) c.args.work.now.made.items c.push.new.self.items c.args.term c.in_ok-push.ensures.items h

pub returns-clause-enough : goal.returns-clause-enough
returns-clause-enough c = c.visit_seen.ensures.enough

pub returns-in-Some-clause-falls : goal.returns-in-Some-clause-falls
returns-in-Some-clause-falls c = visit_done c.args.work.now.tasks.items c.args.term c.args.opened

pub returns-clause-falls : goal.returns-clause-falls
returns-clause-falls c =
    on_ok c.visit_seen.result _ _ (λ f. visit_as c.args.work.now.tasks.items c.args.term c.in_ok-looked.looked.whole c.args.opened (tasks_left c.visit_seen.new.work.tasks.items) f) c.visit_seen.ensures.falls
