use Rattle.std.proofs.Common.{◌≡◌, ◌≤◌, ◌++◌, length, drop, map}
use Rattle.lp_watch.specs.Crowd.{places, reports}
use Rattle.lp_watch.proofs.crowd.add_places.Given as goal

abbrev pub invariant-loop-text : goal.invariant-loop-text
invariant-loop-text g l =
    (l.out.items ++ reports (places (drop l.text-index l.texts) (map g.W.Watch.seen (drop l.i l.watchers)))
    ≡ l.fn.out.items ++ reports (places l.texts (map g.W.Watch.seen l.watchers)))
    × (l.i ≤ length l.watchers)
