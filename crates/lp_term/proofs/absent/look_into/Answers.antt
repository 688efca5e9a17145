use Rattle.lp_term.proofs.Absences.{node_parts}
use Rattle.lp_term.proofs.absent.look_into.Goals as goal

pub returns-in_ok-push_all-in-App-clause-parts : goal.returns-in_ok-push_all-in-App-clause-parts
returns-in_ok-push_all-in-App-clause-parts c = λ z.
    node_parts c.args.bank.now c.args.place c.in-App.head c.in-App.args.now c.args.left.now.items c.push-in-App.new.self.items c.push_all.new.left.items c.requires c.in-App.ensures.tree c.in-App.ensures.older
    c.in_ok-push-in-App.ensures.items c.in_ok-push_all-in-App.ensures
