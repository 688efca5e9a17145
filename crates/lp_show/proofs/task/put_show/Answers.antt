use Rattle.lp_show.specs.declared.task.Task.TheVariants.{Show}
use Rattle.lp_show.proofs.Writings.{pushed}
use Rattle.lp_show.proofs.task.put_show.Goals as goal

pub returns : goal.returns
returns c = λ scene h. pushed scene c.args.tasks.now.items c.push.new.self.items (Show c.args.term c.args.depth c.args.place) c.in_ok-push.ensures.items h
