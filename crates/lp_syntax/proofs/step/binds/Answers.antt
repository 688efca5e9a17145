use Rattle.std.proofs.Common.{ap, is_ok}
use Rattle.std.proofs.ResultArms.{chosen}
use Rattle.lp_syntax.specs.declared.held.Held.TheVariants.{Under}
use Rattle.lp_syntax.specs.declared.held.Doing.TheVariants.{Wants}
use Rattle.lp_syntax.proofs.Closing.{push_steps}
use Rattle.lp_syntax.proofs.step.binds.Goals as goal

pub returns-in_ok-push-in-Some : goal.returns-in_ok-push-in-Some
returns-in_ok-push-in-Some c =
    rw c.in-Some.is (push_steps _ c.args.frames.now.items _ (Under c.in-Some.v c.args.note c.args.fun) Wants (chosen _ _ _ _ c.push.ensures.items (ap is_ok c.in_ok-push-in-Some.was)) c.requires.frames c.requires.fun tt)
