use Rattle.std.proofs.Common.{◌<◌, ◌≤◌, ◌+◌, ◌*◌, ◌-◌, take, length}
use Rattle.std.specs.Prelude.{All}
use Rattle.lp_term.specs.Walk.{sizes}
use Rattle.lp_model.specs.Shown.{arguments_text}
use Rattle.lp_show.specs.Scene.{Scene, pieces}
use Rattle.lp_show.specs.Tasks.{Adds}
use Rattle.lp_show.proofs.write.put_arguments.Given as goal

abbrev pub invariant-arguments : goal.invariant-arguments
invariant-arguments l = record {
  within : l.at ≤ length l.arguments.items;
  tasks : (scene : Scene) → All (λ t. t.0 < length scene.nodes.terms) l.arguments.items →
      Adds scene l.fn.tasks.items l.tasks.items (arguments_text (pieces scene l.depth (take l.at l.arguments.items))) (l.at + 6 * sizes scene.nodes (take l.at l.arguments.items));
}

abbrev pub decreases-arguments : goal.decreases-arguments
decreases-arguments l = length l.arguments.items - l.at
