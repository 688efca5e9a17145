use Rattle.std.proofs.Common.{◌≡◌, ◌+◌, ◌≤◌, map}
use Rattle.lp_watch.specs.Crowd.{places}
use Rattle.lp_plain.specs.Moving.{Tally}
use Rattle.lp_plain.specs.Hearing.{HearsPart}
use Rattle.lp_plain.specs.inner.Following.{Course, Passes, Stands}
use Rattle.lp_plain.specs.inner.Remaining.{left_behind}
use Rattle.lp_plain.proofs.events.run.Given as goal

-- l.fn.crowd and l.crowd: what is seen of the watchers at the beginning, and now
abbrev pub invariant-turns : goal.invariant-turns
invariant-turns g l =
    ((c : Course) (x : Tally) → Stands c x l.fn.first l.fn.machine →
    Passes c l.fn.constants x l.fn.machine l.machine (places l.fn.crowd.texts.items (map g.W.Watch.seen l.fn.crowd.watchers.now.items)) (places l.crowd.texts.items (map g.W.Watch.seen l.crowd.watchers.now.items)) l.turn)
    × (l.crowd.watchers.ghost_name ≡ l.fn.crowd.watchers.ghost_name) × ((c : Course) (x : Tally) → Stands c x l.fn.first l.fn.machine →
    HearsPart l.fn.constants x.notes (places l.fn.crowd.texts.items (map g.W.Watch.seen l.fn.crowd.watchers.now.items)) (places l.crowd.texts.items (map g.W.Watch.seen l.crowd.watchers.now.items))) × ((c : Course) (x : Tally) → Stands c x l.fn.first l.fn.machine →
    l.machine.counts.steps ≤ l.fn.machine.counts.steps + x.steps)

abbrev pub decreases-turns : goal.decreases-turns
decreases-turns g l = left_behind l.turn l.machine
