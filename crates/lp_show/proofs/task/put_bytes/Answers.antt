use Rattle.lp_show.specs.declared.task.Task.TheVariants.{Bytes}
use Rattle.lp_show.proofs.Writings.{pushed}
use Rattle.lp_show.proofs.task.put_bytes.Goals as goal

pub returns : goal.returns
returns c = λ scene. pushed scene c.args.tasks.now.items c.push.new.self.items (Bytes c.args.bytes) c.in_ok-push.ensures.items tt
