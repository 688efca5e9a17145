use Rattle.std.proofs.Common.{map}
use Rattle.lp_term.specs.Nodes.{tree}
use Rattle.lp_show.specs.Scene.{scene_of}
use Rattle.lp_show.proofs.Stacks.{no_application}
use Rattle.lp_show.proofs.write.put_head.Goals as goal

pub put_body-requires-clause-tasks : goal.put_body-requires-clause-tasks
put_body-requires-clause-tasks c = (c.in_ok-put_bytes-in-Abs.ensures (scene_of c.args.context.now)).within c.requires.tasks

pub returns-in-App-clause-written : goal.returns-in-App-clause-written
returns-in-App-clause-written c = absurd (no_application (tree c.args.context.now.bank.now) (map (λ t. t.0) c.in-App.field-1.now) (tree c.args.context.now.bank.now c.in-App.field-0.0) (tree c.args.context.now.bank.now c.args.head.0) c.in-App.ensures.older.2 c.in-App.ensures.tree c.requires.alone)
