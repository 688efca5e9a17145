use Rattle.lp_show.specs.Scene.{scene_of}
use Rattle.lp_show.proofs.write.show_abstraction.Goals as goal

pub put_body-requires-clause-tasks : goal.put_body-requires-clause-tasks
put_body-requires-clause-tasks c = (c.in_ok-open.ensures.tasks (scene_of c.args.context.now)).within c.requires.tasks
