use Rattle.std.proofs.Common.{map, ◌∙◌, ap}
use Rattle.lp_lemmas.proofs.Results.{on_err_always}
use Rattle.lp_watch.specs.Crowd.{places}
use Rattle.lp_watch.specs.Notes.{event_of}
use Rattle.lp_watch.proofs.Steps.{places_made, reaches_none}
use Rattle.lp_watch.proofs.crowd.Lent+W+Vec+Option+Vec+u8.tell.Goals as goal

pub returns-in_err-make_places-clause-memory : goal.returns-in_err-make_places-clause-memory
returns-in_err-make_places-clause-memory g c =
    let more = c.make_places.ensures.more in
    let seen = map g.W.Watch.seen c.args.self.now.watchers.now.items in
    on_err_always c.from_residual.result
    (reaches_none (event_of c.args.note) (places c.args.self.now.texts.items seen) _ (ap (λ l. places l seen) more.1 ∙ places_made c.args.self.now.texts.items seen more.0))

pub returns-clause-told : goal.returns-clause-told
returns-clause-told g c =
    let more = c.make_places.ensures.more in
    let same = places_made c.args.self.now.texts.items (map g.W.Watch.seen c.args.self.now.watchers.now.items) more.0 in
    rw (← same, ← more.1) c.tell_places.ensures.told

pub returns-clause-memory : goal.returns-clause-memory
returns-clause-memory g c =
    let more = c.make_places.ensures.more in
    let same = places_made c.args.self.now.texts.items (map g.W.Watch.seen c.args.self.now.watchers.now.items) more.0 in
    rw (← same, ← more.1) c.tell_places.ensures.memory
