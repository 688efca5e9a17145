use Rattle.std.proofs.Common.{◌≡◌, map}
use Rattle.lp_watch.specs.Crowd.{places}
use Rattle.lp_solve.specs.Shown.{constants_in, names_in}
use Rattle.lp_solve.specs.inner.Heard.{Watched}
use Rattle.lp_solve.proofs.Telling.{SoFar}
use Rattle.lp_solve.proofs.answers.write_answers.Given as goal

abbrev pub invariant-loop-before : goal.invariant-loop-before
invariant-loop-before g l =
    (g.K.Sink.faults l.out ≡ g.K.Sink.faults l.fn.out)
    × SoFar (constants_in l.fn.prepared.shown) (names_in l.fn.prepared.shown) l.fn.prepared.search l.search l.before (g.K.Sink.written l.fn.out) (g.K.Sink.written l.out)
    × Watched l.fn.prepared.search (places l.fn.crowd.texts.items (map g.W.Watch.seen l.fn.crowd.watchers.now.items)) l.search (places l.crowd.texts.items (map g.W.Watch.seen l.crowd.watchers.now.items))
    × (l.crowd.watchers.ghost_name ≡ l.fn.crowd.watchers.ghost_name)
