use Rattle.lp_show.specs.Scene.{scene_of}
use Rattle.lp_show.proofs.Writings.{next_text, next_weight, next_within}
use Rattle.lp_show.proofs.write.write_term.Goals as goal

pub step-requires-clause-task : goal.step-requires-clause-task
step-requires-clause-task c = (next_within (scene_of c.args.context.now) c.tasks.writer.tasks.items c.pop.new.self.items c.in-Some.task c.in-Some.ensures.items c.tasks.invariant.within).0

pub step-requires-clause-tasks : goal.step-requires-clause-tasks
step-requires-clause-tasks c = (next_within (scene_of c.args.context.now) c.tasks.writer.tasks.items c.pop.new.self.items c.in-Some.task c.in-Some.ensures.items c.tasks.invariant.within).1

pub tasks-smaller : goal.tasks-smaller
tasks-smaller c = next_weight (scene_of c.args.context.now) c.tasks.writer.tasks.items c.pop.new.self.items c.in-Some.task c.tasks.writer.out.items c.step.new.writer.out.items c.step.new.writer.tasks.items c.in-Some.ensures.items c.in_ok-step.ensures.written

pub tasks-preserved : goal.tasks-preserved
tasks-preserved c = record {
  text =
      next_text (scene_of c.args.context.now) c.tasks.writer.tasks.items c.pop.new.self.items c.in-Some.task c.tasks.writer.out.items c.step.new.writer.out.items c.step.new.writer.tasks.items _ c.in-Some.ensures.items
      c.in_ok-step.ensures.written c.tasks.invariant.text;
  within = c.in_ok-step.ensures.written.within;
  binders = c.in_ok-step.ensures.binders;
}
