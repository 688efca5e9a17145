use Rattle.lp_gen.proofs.CapturedBy.{marks_application, bound_index, free_index, under_abs, of_application, other_form}
use Rattle.lp_gen.specs.declared.captured.Place.TheVariants as on
use Rattle.lp_gen.proofs.CapturedFrom.{nothing_left, free_found, body_found, application_found}
use Rattle.lp_gen.proofs.captured.visit_term.Goals as goal

pub returns-in_default-around-clause-marks : goal.returns-in_default-around-clause-marks
returns-in_default-around-clause-marks c =
    bound_index c.args.bank.now c.args.base c.args.levels.now.keys c.args.levels.now.keys c.args.work.now.items c.args.work.now.items c.args.term c.args.depth c.in-Index.index c.in-Index.ensures.tree
    (c.around.ensures.bound c.in_default-around.is)

pub returns-in_ok-mark-in-Index-clause-marks : goal.returns-in_ok-mark-in-Index-clause-marks
returns-in_ok-mark-in-Index-clause-marks c =
    free_index c.args.bank.now c.args.base c.args.levels.now.keys c.mark.new.levels.keys c.args.work.now.items c.args.work.now.items c.args.term c.args.depth c.in-Index.index c.in-Some.index c.in-Index.ensures.tree c.in-Some.ensures.free
    c.in_ok-mark-in-Index.ensures.old c.in_ok-mark-in-Index.ensures.new

pub returns-in_ok-push-in-Abs-clause-marks : goal.returns-in_ok-push-in-Abs-clause-marks
returns-in_ok-push-in-Abs-clause-marks c =
    under_abs c.args.bank.now c.args.base c.args.levels.now.keys c.args.levels.now.keys c.args.work.now.items c.push.new.self.items c.args.term c.in-Abs.body c.args.depth c.deeper-under.result
    c.in-Abs.ensures.tree c.deeper-under.ensures c.in_ok-push-in-Abs.ensures.items

pub returns-in_ok-push-in-App-2-clause-marks : goal.returns-in_ok-push-in-App-2-clause-marks
returns-in_ok-push-in-App-2-clause-marks c =
    of_application c.args.bank.now c.args.base c.args.levels.now.keys c.args.levels.now.keys c.args.work.now.items c.push-in-App-2.new.self.items c.args.term c.in-App.head c.in-App.args c.args.depth
    c.push-in-App.new.self.items c.in-App.ensures.tree c.in_ok-push-in-App.ensures.items c.in_ok-push-in-App-2.ensures.items

pub returns-in_ok-push-in-App-2-clause-less : goal.returns-in_ok-push-in-App-2-clause-less
returns-in_ok-push-in-App-2-clause-less c =
    marks_application c.args.bank.now c.args.work.now.items c.push-in-App.new.self.items c.push-in-App-2.new.self.items c.in-App.head c.args.term c.in-App.args c.args.depth
    c.in_ok-push-in-App.ensures.items
    c.in_ok-push-in-App-2.ensures.items c.in-App.ensures.tree c.in-App.ensures.older.2

pub returns-in_default-clause-marks : goal.returns-in_default-clause-marks
returns-in_default-clause-marks c =
    other_form c.args.bank.now c.args.base c.args.levels.now.keys c.args.levels.now.keys c.args.work.now.items c.args.work.now.items c.args.term c.args.depth c.term_node.result
    c.in_default.not-Index c.in_default.not-Abs
    c.in_default.not-App c.term_node.ensures.tree

pub returns-in_default-around-clause-finds : goal.returns-in_default-around-clause-finds
returns-in_default-around-clause-finds c = nothing_left c.args.bank.now c.args.base c.args.levels.now.keys c.args.levels.now.keys c.args.work.now.items c.args.work.now.items (on.Term c.args.term c.args.depth)

pub returns-in_ok-mark-in-Index-clause-finds : goal.returns-in_ok-mark-in-Index-clause-finds
returns-in_ok-mark-in-Index-clause-finds c =
    free_found c.args.bank.now c.args.base c.args.levels.now.keys c.mark.new.levels.keys c.args.work.now.items c.args.work.now.items c.args.term c.args.depth c.in-Index.index c.in-Some.index c.in-Index.ensures.tree
    c.in-Some.ensures.free c.in_ok-mark-in-Index.ensures.found

pub returns-in_ok-push-in-Abs-clause-finds : goal.returns-in_ok-push-in-Abs-clause-finds
returns-in_ok-push-in-Abs-clause-finds c =
    body_found c.args.bank.now c.args.base c.args.levels.now.keys c.args.levels.now.keys c.args.work.now.items c.push.new.self.items c.args.term c.in-Abs.body c.args.depth c.deeper-under.result c.in-Abs.ensures.tree c.deeper-under.ensures c.in_ok-push-in-Abs.ensures.items

pub returns-in_ok-push-in-App-2-clause-finds : goal.returns-in_ok-push-in-App-2-clause-finds
returns-in_ok-push-in-App-2-clause-finds c =
    application_found c.args.bank.now c.args.base c.args.levels.now.keys c.args.levels.now.keys c.args.work.now.items c.push-in-App-2.new.self.items c.args.term c.in-App.head c.in-App.args c.args.depth c.push-in-App.new.self.items c.in-App.ensures.tree c.in_ok-push-in-App.ensures.items
    c.in_ok-push-in-App-2.ensures.items

pub returns-in_default-clause-finds : goal.returns-in_default-clause-finds
returns-in_default-clause-finds c = nothing_left c.args.bank.now c.args.base c.args.levels.now.keys c.args.levels.now.keys c.args.work.now.items c.args.work.now.items (on.Term c.args.term c.args.depth)

pub returns-in_ok-mark-in-Index-clause-distinct : goal.returns-in_ok-mark-in-Index-clause-distinct
returns-in_ok-mark-in-Index-clause-distinct c = c.in_ok-mark-in-Index.ensures.distinct
