use Rattle.std.proofs.Common.{◌≡◌, ◌++◌}
use Rattle.lp_show.specs.Named.{all, AreBinders}
use Rattle.lp_show.specs.Places.{placed}
use Rattle.lp_show.specs.Scene.{scene_of, piece_at}
use Rattle.lp_show.specs.Tasks.{AreWithin, rest, weight}
use Rattle.lp_show.proofs.write.write_term.Given as goal

abbrev pub invariant-tasks : goal.invariant-tasks
invariant-tasks l = record {
  text : l.writer.out.items ++ rest (scene_of l.context) l.writer.tasks.items ≡ l.fn.writer.out.items ++ placed l.fn.place (piece_at (scene_of l.context) 0 l.fn.term.0);
  within : AreWithin (scene_of l.context) l.writer.tasks.items;
  binders : AreBinders (all l.context.names.now) l.writer.binders.items;
}

abbrev pub decreases-tasks : goal.decreases-tasks
decreases-tasks l = weight (scene_of l.context) l.writer.tasks.items
