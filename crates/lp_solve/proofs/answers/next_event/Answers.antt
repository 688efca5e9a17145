use Rattle.std.proofs.Common.{map}
use Rattle.lp_watch.specs.Crowd.{places}
use Rattle.lp_solve.proofs.Telling.{next_by}
use Rattle.lp_solve.proofs.answers.next_event.Goals as goal

pub returns-clause-next : goal.returns-clause-next
returns-clause-next g c =
    next_by c.args.search.now c.next.new.self (places c.args.crowd.now.texts.items (map g.W.Watch.seen c.args.crowd.now.watchers.now.items)) (places c.next.new.crowd.texts.items (map g.W.Watch.seen c.next.new.crowd.watchers.now.items)) c.next.result
    c.next.ensures.variables c.next.ensures.constants c.next.ensures.told c.next.ensures.search c.next.ensures.ended c.next.ensures.notes

pub returns-clause-same : goal.returns-clause-same
returns-clause-same g c = c.next.ensures.same

pub returns-clause-part : goal.returns-clause-part
returns-clause-part g c = c.next.ensures.begins
