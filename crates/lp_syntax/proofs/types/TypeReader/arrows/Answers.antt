use Rattle.std.proofs.Common.{ap, is_ok}
use Rattle.std.proofs.ResultArms.{chosen}
use Rattle.lp_syntax.specs.declared.types.Waiting.TheVariants.{Arrow}
use Rattle.lp_syntax.proofs.TypeSteps.{pushed_waits}
use Rattle.lp_syntax.proofs.types.TypeReader.arrows.Goals as goal

pub returns-clause-moves : goal.returns-clause-moves
returns-clause-moves c = pushed_waits c.args.self.now.waiting.items _ (Arrow c.args.node) (chosen _ _ _ _ c.push.ensures.items (ap is_ok c.in_ok-push.was))
