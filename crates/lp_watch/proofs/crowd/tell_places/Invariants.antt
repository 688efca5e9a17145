use Rattle.std.proofs.Common.{◌≡◌, ◌≤◌, length, map, take, drop}
use Rattle.lp_watch.specs.Crowd.{places}
use Rattle.lp_watch.specs.Notes.{event_of}
use Rattle.lp_watch.proofs.Walk.{Walk}
use Rattle.lp_watch.proofs.crowd.tell_places.Given as goal

abbrev pub invariant-loop-place : goal.invariant-loop-place
invariant-loop-place g l =
    Walk g.W.Watch.seen (event_of l.note) (places l.fn.texts.items (map g.W.Watch.seen l.fn.watchers.items))
    (take l.place l.texts.items) (drop l.place l.texts.items) (take l.i l.watchers.items) (drop l.i l.watchers.items)
    × (l.place-end ≡ length l.texts.items)
    × (l.i ≤ length l.watchers.items)
