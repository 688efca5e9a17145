use Rattle.lp_term.specs.Nodes.{Extends}
use Rattle.lp_term.specs.Mapped.{Map, IsMap}
use Rattle.lp_term.specs.inner.Reading.{read_of}
use Rattle.lp_term.specs.inner.Walking.{IsIn, AreRight, Walks, toil}
use Rattle.lp_term.proofs.walk.walk.Given as goal

abbrev pub invariant-tasks : goal.invariant-tasks
invariant-tasks g l =
    let b = read_of l.here l.from l.fn.to in
    let f = g.M.Mapping.told l.map in
    record {
      kept : Extends l.fn.to l.to;
      keeps : (m : Map) → IsMap f m b l.fn.to → IsIn b l.fn.first → AreRight m b l.fn.to l.fn.done → Walks f m b l.to l.done l.tasks.items l.fn.first;
    }

abbrev pub decreases-tasks : goal.decreases-tasks
decreases-tasks g l = toil (g.M.Mapping.told l.map) (read_of l.here l.from l.fn.to) l.done l.tasks.items
