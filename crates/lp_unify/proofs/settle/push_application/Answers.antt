use Rattle.lp_lemmas.proofs.Elements.{All_pushed}
use Rattle.lp_unify.specs.Inside.{IsTaskFor}
use Rattle.lp_unify.proofs.settle.push_application.Goals as goal

pub returns : goal.returns
returns c =
    let s = c.args.store.now in
    let x = c.args.side.now.variable.0 in
    record {
      tasks = c.in_ok-push_visits.ensures s x (All_pushed (IsTaskFor s x) _ c.args.work.now.tasks.items _ c.in_ok-push-2.ensures.items c.requires.work.tasks c.requires.head);
      made = c.requires.work.made;
    }
