use Rattle.std.proofs.Common.{◌<◌, ◌*◌, false}
use Rattle.lp_term.specs.Nodes.{tree}
use Rattle.lp_term.specs.Walk.{size}
use Rattle.lp_term.specs.Opened.{IsOpened, work}
use Rattle.lp_term.proofs.Openings.{an_opened, opened_app, both_pushed}
use Rattle.lp_term.proofs.form.open.Goals as goal

application : (c : goal.In_ok-push-in-App) →
    IsOpened c.args.bank.now (an_opened c.args.id false false c.new-done.result c.push-in-App.new.self) ×
    (work c.args.bank.now (an_opened c.args.id false false c.new-done.result c.push-in-App.new.self) < 2 * size (tree c.args.bank.now c.args.id.0))
application c =
    opened_app c.args.bank.now c.args.id c.in-App.head c.in-App.args.now c.new-done.result c.push-in-App.new.self c.new-done.ensures.items
    (both_pushed c.new-left.result.items c.in-App.args.now c.push_reversed.new.args.items c.push-in-App.new.self.items c.in-App.head c.new-left.ensures.items c.in_ok-push_reversed-in-App.ensures c.in_ok-push-in-App.ensures.items)
    c.requires.id c.in-App.ensures.tree c.in-App.ensures.older.0 c.in-App.ensures.older.1 c.in-App.ensures.older.2

pub returns-in_ok-push-in-App-clause-opened : goal.returns-in_ok-push-in-App-clause-opened
returns-in_ok-push-in-App-clause-opened c = (application c).0

pub returns-in_ok-push-in-App-clause-work : goal.returns-in_ok-push-in-App-clause-work
returns-in_ok-push-in-App-clause-work c = (application c).1
