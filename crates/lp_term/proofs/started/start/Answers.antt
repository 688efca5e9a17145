use Rattle.lp_term.proofs.Openings.{both_pushed}
use Rattle.lp_term.proofs.Startings.{is_application}
use Rattle.lp_term.proofs.started.start.Goals as goal

pub returns-in_ok-push-in-App-clause-started : goal.returns-in_ok-push-in-App-clause-started
returns-in_ok-push-in-App-clause-started c =
    is_application c.args.given.now c.args.bank.now c.args.place c.in-App.head c.in-App.args.now c.new-in-App.result c.push-in-App.new.self c.new-in-App.ensures.items
    (both_pushed c.new-left-in-App.result.items c.in-App.args.now c.push_reversed.new.args.items c.push-in-App.new.self.items c.in-App.head c.new-left-in-App.ensures.items c.in_ok-push_reversed-in-App.ensures
    c.in_ok-push-in-App.ensures.items) c.requires c.in-App.ensures.tree c.in-App.ensures.older
