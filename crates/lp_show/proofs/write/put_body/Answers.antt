use Rattle.lp_show.specs.Scene.{scene_of}
use Rattle.lp_show.proofs.Writings.{body_written}
use Rattle.lp_show.proofs.write.put_body.Goals as goal

pub returns-clause-written : goal.returns-clause-written
returns-clause-written c =
    let s = scene_of c.args.context.now in
    body_written s c.args.writer.now.out.items c.push_binder.new.out.items c.extend_from_slice.new.self.items c.args.writer.now.tasks.items c.put_show.new.tasks.items c.args.depth c.args.body
    c.in_ok-push_binder.ensures.text c.in_ok-extend_from_slice.ensures.items (c.in_ok-put_show.ensures s c.requires.body) c.requires.tasks
